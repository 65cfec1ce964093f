-- A step of pond ends: it is done or refused, and no request is left open. Definitions only.
use Rattle.std.specs.Prelude.{◌≡◌, ℕ, Bool, true, false, List, Some, None, Ok}
use Rattle.rosenbrock.specs.declared.RosenbrockStepper.{RosenbrockStepper}
use Rattle.refusals.specs.Answers.{Lent, Answer, refused, asked, shown, told, done}
use Rattle.rosenbrock.specs.Stepper.{System}
use Rattle.decay.specs.Host.{one_step}
use Rattle.forecast.specs.Pond.{advanced}

unfoldable pub is_end : Answer → Bool
is_end done = true
is_end (refused refusal) = true
is_end (asked q) = false
is_end (shown v) = false
is_end (told r) = false

-- from any record of one component, with any file
abbrev pub StepEnds : Type 0
StepEnds = (file : List ℕ) (y : System) → y.stepper.fixed.n ≡ 1 → is_end (one_step file y).answer ≡ true

-- so what was reached is followed by a time that is reached, or by a refusal
abbrev pub NotOver : Type 0
NotOver = (file : List ℕ) (y : RosenbrockStepper) (m : Lent) → y.fixed.n ≡ 1 → (advanced file (record { forecast = Some (Ok y); lent = m })).forecast ≡ None → ⊥
