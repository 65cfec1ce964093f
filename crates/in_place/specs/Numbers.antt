-- An answer as two numbers, for a host in another language: its kind, and the number of a refusal, 0 for none. Definitions only.
use Rattle.std.specs.Prelude.{ℕ, Result, Ok, Err}
use Rattle.stepping.specs.declared.Refusal.{Refusal}
use Rattle.stepping.specs.Refusals as refusals
use Rattle.rosenbrock.specs.declared.Answer as code
use Rattle.rosenbrock.specs.declared.Answer.TheVariants.{Asked, Shown, Done}
use Rattle.refusals.specs.Answers.{Answer, refused, asked, shown, told, done}

-- of the code's answer: 0 refused, 1 asked, 2 shown, 3 done
unfoldable pub kind_of : Result code.Answer Refusal → ℕ
kind_of (Err refusal) = 0
kind_of (Ok Asked) = 1
kind_of (Ok Shown) = 2
kind_of (Ok Done) = 3

-- of the definitions' answer; a reader's kind is 4
unfoldable pub kind_in : Answer → ℕ
kind_in (refused refusal) = 0
kind_in (asked r) = 1
kind_in (shown v) = 2
kind_in done = 3
kind_in (told r) = 4

unfoldable pub number_in : Answer → ℕ
number_in (refused refusal) = refusals.number refusal
number_in (asked r) = 0
number_in (shown v) = 0
number_in done = 0
number_in (told r) = 0
