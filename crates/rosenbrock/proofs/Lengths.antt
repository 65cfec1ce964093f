-- Every call keeps the lengths of the needed work and of the pivots, whatever the kernels write. Assumes nothing.
use Prim.Native.Nat.{ℕ}
use mathlib.Core.Path.{◌≡◌, refl}
use mathlib.Core.Bool.{Bool}
use mathlib.Core.List.{List}
use lib.ListN.{length, length-replicate}
use lib.Ieee.{Float}
use Rattle.vector.proofs.Stores.{length-puts}
use Rattle.stepping.specs.Refusals.{Test}
use Rattle.std.specs.Prelude.{Result, Ok, Err}
use Rattle.stepping.specs.declared.Refusal.{Refusal}
use Rattle.attempts.specs.Marks.{Counted}
use Rattle.attempts.specs.declared.Ask.{Ask}
use Rattle.attempts.specs.Marks.{nothing_counted}
use Rattle.attempts.specs.Attempt.{Stopped, resume}
use Rattle.attempts.proofs.Lengths.{Long, StoppedLong, start_keeps, resume_keeps}
use Rattle.refusals.specs.declared.Fixed.{Fixed}
use Rattle.refusals.specs.declared.Progress.{Progress}
use Rattle.refusals.specs.Answers.{Lent}
use Rattle.rosenbrock.specs.Calls.{Out, refusal, guarded, given_by, scratch_by, settle, opened, attempt_by, attempt_of, towards, attempt_to_of, supply_of, failed, fail_of, accepted, accept_of, rejected, reject_of, injected, inject_of, cleared, restarted, reset_of}
use Rattle.phases.specs.Phases.{opening}
use Rattle.rosenbrock.specs.Readers.{Query, answered, read_of}
use Rattle.rosenbrock.specs.Stepper.{Call, attempt, attempt_to, supply, fail, accept, reject, inject_derivative, reset, read, called}
use Rattle.rosenbrock.proofs.Guards.{guarded_either}

pub record OutLong (m : Lent) (o : Out) : Type 0 where
  pub of_work : length o.lent.work ≡ length m.work
  pub of_pivots : length o.lent.pivots ≡ length m.pivots

module _ (fx : Fixed) (x : Progress) (m : Lent) where
  refusal_keeps : (k : Refusal) → OutLong m (refusal x m k)
  unfolding refusal
  refusal_keeps k = record { of_work = refl; of_pivots = refl }

  guarded_keeps : (tests : List Test) (o : Out) → OutLong m o → OutLong m (guarded tests x m o)
  guarded_keeps tests o h = guarded_either tests x m o (λ (q : Out). OutLong m q) refusal_keeps (λ _. h)

  settle_keeps : (r : Stopped) → StoppedLong (length m.work) (length m.pivots) r → OutLong m (settle fx x m r)
  unfolding settle
  settle_keeps r h = record { of_work = h.of_work; of_pivots = h.of_pivots }

  scratch_long : (c : Counted) → Long (length m.work) (length m.pivots) (scratch_by c x m)
  unfolding scratch_by
  scratch_long c = record { of_work = refl; of_pivots = refl }

  pub opened_keeps : (file : List ℕ) → OutLong m (opened fx file x m)
  unfolding opened
  opened_keeps file = settle_keeps _ (start_keeps _ _ _ _ (scratch_long _))

  failed_keeps : OutLong m (failed x m)
  unfolding failed
  failed_keeps = record { of_work = refl; of_pivots = refl }

  pub accepted_keeps : OutLong m (accepted fx x m)
  unfolding accepted
  accepted_keeps = record { of_work = refl; of_pivots = refl }

  rejected_keeps : OutLong m (rejected x m)
  unfolding rejected
  rejected_keeps = record { of_work = refl; of_pivots = refl }

  pub injected_keeps : (derivative : List Float) → OutLong m (injected fx derivative x m)
  unfolding injected
  injected_keeps derivative = record { of_work = length-puts m.work _ _ fx.n; of_pivots = refl }

  pub resumed_keeps : (file : List ℕ) (a : Ask) (values : List Float) → OutLong m (settle fx x m (resume (given_by fx file x m) a values (scratch_by nothing_counted x m)))
  resumed_keeps file a values = settle_keeps _ (resume_keeps _ _ _ a values _ (scratch_long _))

  answered_keeps : (q : Query) → OutLong m (answered q fx x m)
  unfolding answered
  answered_keeps q = record { of_work = refl; of_pivots = refl }

pub restarted_keeps : (time : Float) (state : List Float) (m : Lent) → OutLong m (restarted time state m)
unfolding restarted cleared
restarted_keeps time state m = record { of_work = length-replicate _ _; of_pivots = length-replicate _ _ }

-- ---- every call
attempt_by_keeps : (fx : Fixed) (file : List ℕ) (step : Float) (jacobian partial : Bool) (x : Progress) (m : Lent) → OutLong m (attempt_by fx file step jacobian partial x m)
unfolding attempt_by
attempt_by_keeps fx file step jacobian partial x m = guarded_keeps fx x m _ _ (opened_keeps fx (opening step jacobian partial x) m file)

towards_keeps : (e : Result Float Refusal) (fx : Fixed) (file : List ℕ) (jacobian partial : Bool) (x : Progress) (m : Lent) → OutLong m (towards e fx file jacobian partial x m)
unfolding towards
towards_keeps (Ok step) fx file jacobian partial x m = attempt_by_keeps fx file step jacobian partial x m
towards_keeps (Err k) fx file jacobian partial x m = refusal_keeps fx x m k

pub called_keeps : (fx : Fixed) (c : Call) (x : Progress) (m : Lent) → OutLong m (called fx c x m)
unfolding called attempt_of attempt_to_of supply_of fail_of accept_of reject_of inject_of reset_of read_of
called_keeps fx (attempt file step jacobian partial) x m = guarded_keeps fx x m _ _ (attempt_by_keeps fx file step jacobian partial x m)
called_keeps fx (attempt_to file endpoint proposal jacobian partial) x m = guarded_keeps fx x m _ _ (towards_keeps _ fx file jacobian partial x m)
called_keeps fx (supply file values) x m = guarded_keeps fx x m _ _ (resumed_keeps fx x m file _ values)
called_keeps fx fail x m = guarded_keeps fx x m _ _ (failed_keeps fx x m)
called_keeps fx (accept f) x m = guarded_keeps fx x m _ _ (accepted_keeps fx x m)
called_keeps fx (reject f) x m = guarded_keeps fx x m _ _ (rejected_keeps fx x m)
called_keeps fx (inject_derivative derivative) x m = guarded_keeps fx x m _ _ (injected_keeps fx x m derivative)
called_keeps fx (reset time state) x m = guarded_keeps fx x m _ _ (restarted_keeps time state m)
called_keeps fx (read q) x m = guarded_keeps fx x m _ _ (answered_keeps fx x m q)
