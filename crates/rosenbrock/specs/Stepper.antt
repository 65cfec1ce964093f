-- A stepper with all that is lent to it, its making, and one call after it. Definitions only.
use Rattle.std.specs.Prelude.{ℕ, Bool, List, ◌++◌, length, take, drop, Float}
use Rattle.stepping.specs.declared.Refusal.{Refusal}
use Rattle.stepping.specs.Refusals.{first_of, unless_refused}
use Rattle.time_difference.specs.declared.TimeDifferencePolicy.{TimeDifferencePolicy}
use Rattle.tableau.specs.Tableau.{stages_of}
use Rattle.tableau.specs.File.{tableau_of}
use Rattle.stages.specs.Layout.{needed_work}
use Rattle.refusals.specs.declared.Fixed.{Fixed}
use Rattle.refusals.specs.declared.Progress.{Progress}
use Rattle.statistics.specs.Counters.{tallied, no_statistics}
use Rattle.rosenbrock.specs.declared.RosenbrockStepper.{RosenbrockStepper}
use Rattle.refusals.specs.Answers.{Lent, lending, Answer}
use Rattle.refusals.specs.Tests.{making_tests}
use Rattle.rosenbrock.specs.Calls.{Out, attempt_of, attempt_to_of, supply_of, fail_of, accept_of, reject_of, inject_of, reset_of, cleared}
use Rattle.phases.specs.Phases.{fresh}
use Rattle.rosenbrock.specs.Readers.{Query, read_of}

-- ---- the calls

-- accept and reject take the record by value, or lent to be changed
pub data Form : Type 0 where
  by_value in_place : Form

-- a call with its arguments; the record and the memory lent with it are left out
pub data Call : Type 0 where
  attempt : (file : List ℕ) (step : Float) (host_jacobian host_time_partial : Bool) → Call
  attempt_to : (file : List ℕ) (endpoint proposal : Float) (host_jacobian host_time_partial : Bool) → Call
  supply : (file : List ℕ) (values : List Float) → Call
  fail : Call
  accept reject : Form → Call
  inject_derivative : (derivative : List Float) → Call
  reset : (time : Float) (state : List Float) → Call
  read : Query → Call

-- a call on the needed memory
unfoldable pub called : Fixed → Call → Progress → Lent → Out
called fx (attempt file step jacobian partial) x m = attempt_of fx file step jacobian partial x m
called fx (attempt_to file endpoint proposal jacobian partial) x m = attempt_to_of fx file endpoint proposal jacobian partial x m
called fx (supply file values) x m = supply_of fx file values x m
called fx fail x m = fail_of fx x m
called fx (accept f) x m = accept_of fx x m
called fx (reject f) x m = reject_of fx x m
called fx (inject_derivative derivative) x m = inject_of fx derivative x m
called fx (reset time state) x m = reset_of fx time state x m
called fx (read q) x m = read_of q fx x m

-- ---- a stepper with its memory

pub record System : Type 0 where
  pub stepper : RosenbrockStepper
  pub lent : Lent

unfoldable pub needed : Fixed → ℕ
needed fx = needed_work fx.n fx.s

-- the memory with only the needed work, k doubles, and the memory with another needed work in the old one's place
unfoldable pub trimmed : ℕ → Lent → Lent
trimmed k m = lending m.state (take k m.work) m.pivots

unfoldable pub untrimmed : ℕ → Lent → Lent → Lent
untrimmed k old new = lending new.state (new.work ++ drop k old.work) new.pivots

pub record Next : Type 0 where
  pub system : System
  pub answer : Answer

unfoldable pub result : Call → System → Out
result c y = let fx = y.stepper.fixed in called fx c y.stepper.progress (trimmed (needed fx) y.lent)

-- the record and its memory as a call leaves them
abbrev pub next_by : RosenbrockStepper → Lent → Out → Next
next_by y m o =
    record {
      system =
          record {
            stepper = record { fixed = y.fixed; progress = o.progress; statistics = tallied o.counted y.statistics };
            lent = untrimmed (needed y.fixed) m o.lent;
          };
      answer = o.answer;
    }

-- a call on a stepper: what it leaves, and what it answers
unfoldable pub stepped : Call → System → Next
stepped c y = next_by y.stepper y.lent (result c y)

-- ---- the making

pub data Made : Type 0 where
  not_made : Refusal → Made
  made : System → Made

-- n is the length of the state that is lent, and s the file's
unfoldable pub fixed_by : List ℕ → TimeDifferencePolicy → Lent → Fixed
fixed_by file policy m = record { n = length m.state; s = stages_of (tableau_of file); policy = policy }

-- the needed work and the pivots are set to 0
unfoldable pub made_of : List ℕ → TimeDifferencePolicy → Float → Lent → System
made_of file policy time m =
    let fx = fixed_by file policy m in
    record {
      stepper = record { fixed = fx; progress = fresh time; statistics = no_statistics };
      lent = untrimmed (needed fx) m (cleared m.state (trimmed (needed fx) m));
    }

unfoldable pub make : List ℕ → TimeDifferencePolicy → Float → Lent → Made
make file policy time m =
    unless_refused not_made (first_of (making_tests file time (trimmed (needed (fixed_by file policy m)) m))) (made (made_of file policy time m))
