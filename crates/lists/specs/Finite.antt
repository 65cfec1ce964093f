-- What of the memory is finite after the calls of a list. Definitions only.
use Rattle.std.specs.Prelude.{ℕ, ◌≡◌, true, List, Float}
use Rattle.vector.specs.Lists.{all_finite}
use Rattle.time_difference.specs.declared.TimeDifferencePolicy.{TimeDifferencePolicy}
use Rattle.refusals.specs.Requests.{is_pending}
use Rattle.refusals.specs.Answers.{Lent, candidate_of}
use Rattle.rosenbrock.specs.Stepper.{Call, System, make, made}
use Rattle.lists.specs.Run.{after}
use Rattle.lists.specs.Opening.{memory}

-- the accepted state, and the candidate while one is pending
pub record IsFinite (y : System) : Type 0 where
  pub state : all_finite y.lent.state ≡ true
  pub candidate : is_pending y.stepper.progress.request ≡ true → all_finite (candidate_of y.stepper.fixed (memory y)) ≡ true

-- for every making that is not refused and every list of calls, whatever the host supplies
abbrev pub AlwaysFinite : Type 0
AlwaysFinite = (file : List ℕ) (policy : TimeDifferencePolicy) (time : Float) (lent : Lent) (y : System) → make file policy time lent ≡ made y
    → (calls : List Call)
    → IsFinite (after y calls)
