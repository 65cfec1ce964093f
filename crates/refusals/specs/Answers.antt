-- What a call answers, and what of the record and the lent memory a request and a step view show. Definitions only.
use Rattle.std.specs.Prelude.{ℕ, ◌*◌, cond, List, [], Float}
use Rattle.std.proofs.Math.Option.{Option, none, some}
use Rattle.std.specs.Float.Ieee.{eq}
use Rattle.float.specs.Operators.{𝟎}
use Rattle.vector.specs.Parts.{part}
use Rattle.stepping.specs.declared.Refusal.{Refusal}
use Rattle.stages.specs.Layout.{candidate_at, error_at, stage_state_at, time_partial_at, probe_state_at, jacobian_at, stages_at, rhs_stages_at}
use Rattle.attempts.specs.declared.Ask.{Ask}
use Rattle.attempts.specs.declared.Ask.TheVariants.{Derivative, Jacobian, TimePartial, FirstProbe, SecondProbe, Column, Stage}
use Rattle.attempts.specs.Attempt.{Ending, Asks, Ends, Shows}
use Rattle.refusals.specs.declared.Fixed.{Fixed}
use Rattle.refusals.specs.declared.Progress.{Progress}

-- what is lent with the record; the work is the needed work
pub record Lent : Type 0 where
  pub state : List Float
  pub work : List Float
  pub pivots : List ℕ

abbrev pub lending : List Float → List Float → List ℕ → Lent
lending state work pivots = record { state = state; work = work; pivots = pivots }

-- ---- a request

pub data Kind : Type 0 where
  derivative jacobian time_partial : Kind

pub record Request : Type 0 where
  pub kind : Kind
  pub time : Float
  pub state : List Float

unfoldable pub kind_of : Ask → Kind
kind_of Derivative = derivative
kind_of Jacobian = jacobian
kind_of TimePartial = time_partial
kind_of FirstProbe = derivative
kind_of SecondProbe = derivative
kind_of (Column k) = derivative
kind_of (Stage i) = derivative

-- the accepted state, or the state of the probed column or of the stage
unfoldable pub state_asked : Fixed → Lent → Ask → List Float
state_asked fx m Derivative = m.state
state_asked fx m Jacobian = m.state
state_asked fx m TimePartial = m.state
state_asked fx m FirstProbe = m.state
state_asked fx m SecondProbe = m.state
state_asked fx m (Column k) = part (probe_state_at fx.n) fx.n m.work
state_asked fx m (Stage i) = part (stage_state_at fx.n) fx.n m.work

unfoldable pub request_of : Fixed → Progress → Lent → Ask → Request
request_of fx x m a = record { kind = kind_of a; time = x.memo.request_time; state = state_asked fx m a }

-- ---- a step view

pub record View : Type 0 where
  pub previous : List Float
  pub start : Float
  pub end : Float
  pub candidate : List Float
  pub error : Option (List Float)
  pub stages : List Float
  pub rhs_stages : List Float
  pub jacobian : List Float
  pub time_partial : List Float

unfoldable pub candidate_of : Fixed → Lent → List Float
candidate_of fx m = part (candidate_at fx.n) fx.n m.work

unfoldable pub error_shown : Fixed → Progress → Lent → Option (List Float)
error_shown fx x m = cond x.memo.error_shown (some (part (error_at fx.n) fx.n m.work)) none

-- a part of the work that is empty at the step 0
unfoldable pub shown_part : ℕ → ℕ → Progress → Lent → List Float
shown_part at k x m = cond (eq x.step 𝟎) [] (part at k m.work)

unfoldable pub stages_shown : Fixed → Progress → Lent → List Float
stages_shown fx x m = shown_part (stages_at fx.n) (fx.s * fx.n) x m

unfoldable pub rhs_stages_shown : Fixed → Progress → Lent → List Float
rhs_stages_shown fx x m = shown_part (rhs_stages_at fx.n fx.s) (fx.s * fx.n) x m

unfoldable pub jacobian_shown : Fixed → Progress → Lent → List Float
jacobian_shown fx x m = shown_part (jacobian_at fx.n) (fx.n * fx.n) x m

unfoldable pub time_partial_shown : Fixed → Progress → Lent → List Float
time_partial_shown fx x m = shown_part (time_partial_at fx.n) fx.n x m

unfoldable pub view_of : Fixed → Progress → Lent → View
view_of fx x m =
    record {
      previous = m.state;
      start = x.time;
      end = x.end;
      candidate = candidate_of fx m;
      error = error_shown fx x m;
      stages = stages_shown fx x m;
      rhs_stages = rhs_stages_shown fx x m;
      jacobian = jacobian_shown fx x m;
      time_partial = time_partial_shown fx x m;
    }

-- ---- all answers

-- what a reader tells
pub data Reply : Type 0 where
  number : Float → Reply
  vector : List Float → Reply
  absent : Reply
  request : Request → Reply
  -- statistics were told; their values are no part of what is compared
  statistics : Reply

pub data Answer : Type 0 where
  refused : Refusal → Answer
  asked : Request → Answer
  shown : View → Answer
  told : Reply → Answer
  done : Answer

unfoldable pub answer_of : Fixed → Progress → Lent → Ending → Answer
answer_of fx x m (Asks a) = asked (request_of fx x m a)
answer_of fx x m (Ends refusal) = refused refusal
answer_of fx x m Shows = shown (view_of fx x m)
