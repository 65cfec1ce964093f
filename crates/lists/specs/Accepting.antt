-- When the accepted time and state change, whatever record and memory are. Definitions only.
use Rattle.std.specs.Prelude.{◌≡◌, Bool, true, false, List, Float}
use Rattle.float.specs.Operators.{◌⊕◌}
use Rattle.refusals.specs.Requests.{is_pending}
use Rattle.refusals.specs.Answers.{Answer, done, candidate_of}
use Rattle.rosenbrock.specs.Stepper.{Form, Call, accept, reset, System, stepped}
use Rattle.lists.specs.Opening.{memory}
use Rattle.lists.specs.Run.{accepted_in}

unfoldable pub is_done : Answer → Bool
is_done done = true
is_done a = false

-- an accept or a reset that was not refused
unfoldable pub sets_accepted : Call → Answer → Bool
sets_accepted (accept f) a = is_done a
sets_accepted (reset time state) a = is_done a
sets_accepted c a = false

-- every other call leaves the accepted time and state as they were
abbrev pub OthersLeaveIt : Type 0
OthersLeaveIt = (c : Call) (y : System) → sets_accepted c (stepped c y).answer ≡ false → accepted_in (stepped c y).system ≡ accepted_in y

-- an accept: a candidate was pending; the time becomes time plus effective step, rounded once, and the state the candidate
pub record Accepts (y z : System) : Type 0 where
  pub pending : is_pending y.stepper.progress.request ≡ true
  pub takes : accepted_in z ≡
      record {
        time = y.stepper.progress.time ⊕ y.stepper.progress.step;
        state = candidate_of y.stepper.fixed (memory y);
      }

abbrev pub AcceptTakesTheCandidate : Type 0
AcceptTakesTheCandidate = (f : Form) (y : System) → (stepped (accept f) y).answer ≡ done → Accepts y (stepped (accept f) y).system

-- a reset: time and state as handed over
abbrev pub ResetTakesBoth : Type 0
ResetTakesBoth = (time : Float) (state : List Float) (y : System) → (stepped (reset time state) y).answer ≡ done
    → accepted_in (stepped (reset time state) y).system ≡ record { time = time; state = state }
