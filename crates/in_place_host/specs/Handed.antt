-- What is handed to the host for each answer of a call on the lent record: a number for the kind of answer and the number of a refusal. Definitions only.
use Rattle.std.specs.Prelude.{ℕ, cond, eqb, Result}
use Rattle.stepping.specs.declared.Refusal.{Refusal}
use Rattle.rosenbrock.specs.declared.Answer as code
use Rattle.rosenbrock.specs.Stepper.{System, Next}
use Rattle.stepping.specs.Refusals.{number_of}
use Rattle.in_place.specs.Numbers.{kind_of, kind_in, number_in}
use Rattle.in_place_host.specs.declared.CallAnswer.{CallAnswer}

-- of the code's answer
unfoldable pub of_answer : Result code.Answer Refusal → CallAnswer
of_answer a = record { kind = kind_of a; number = number_of a }

-- of accept and reject, which hand out a number alone: 0 is done, and any other is a refusal's
unfoldable pub decided : ℕ → CallAnswer
decided k = record { kind = cond (eqb k 0) 3 0; number = k }

-- the numbers, with the record and the memory as the call leaves them
pub record Handed : Type 0 where
  pub answer : CallAnswer
  pub system : System

abbrev pub handed : CallAnswer → System → Handed
handed r y = record { answer = r; system = y }

-- the same of the definitions' answer
unfoldable pub as_numbers : Next → Handed
as_numbers r = handed (record { kind = kind_in r.answer; number = number_in r.answer }) r.system
