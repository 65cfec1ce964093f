-- A list of calls after a making: what is left, and what is seen after each call. Definitions only.
use Rattle.std.specs.Prelude.{List, [], ◌∷◌, Float}
use Rattle.refusals.specs.Answers.{Answer}
use Rattle.rosenbrock.specs.Stepper.{Call, System, stepped}

-- the stepper and its memory after the calls
unfoldable pub after : System → List Call → System
after y [] = y
after y (c ∷ cs) = after (stepped c y).system cs

pub record Accepted : Type 0 where
  pub time : Float
  pub state : List Float

unfoldable pub accepted_in : System → Accepted
accepted_in y = record { time = y.stepper.progress.time; state = y.lent.state }

-- Seen after a call: the request with its kind, time and state, or the view with all its entries, or the refusal, or a reader's reply; then
-- the accepted time and state.
pub record Seen : Type 0 where
  pub answer : Answer
  pub accepted : Accepted

unfoldable pub seen : Call → System → Seen
seen c y = let next = stepped c y in record { answer = next.answer; accepted = accepted_in next.system }

unfoldable pub run : System → List Call → List Seen
run y [] = []
run y (c ∷ cs) = seen c y ∷ run (stepped c y).system cs
