-- The accepted time and state change at an accept and at a reset that are done, and nowhere else. Assumes nothing.
use mathlib.Core.Path.{◌≡◌, refl, ap}
use mathlib.Core.Bool.{Bool, false, true≢false}
use mathlib.Core.List.{List}
use lib.Ieee.{Float}
use Prim.Native.Nat.{ℕ}
use Rattle.std.specs.Prelude.{Result, Ok, Err}
use Rattle.stepping.specs.declared.Refusal.{Refusal}
use Rattle.stepping.specs.Refusals.{Test}
use Rattle.attempts.specs.Attempt.{Stopped}
use Rattle.refusals.specs.declared.Fixed.{Fixed}
use Rattle.refusals.specs.declared.Progress.{Progress}
use Rattle.refusals.specs.Answers.{Lent}
use Rattle.refusals.proofs.Passed.{decision_passed}
use Rattle.rosenbrock.specs.Calls.{Out, refusal, guarded, progress_after, settle, opened, attempt_by, attempt_of, towards, attempt_to_of, supply_of, failed, fail_of, accepted, accept_of, rejected, reject_of, injected, inject_of, cleared, restarted, reset_of}
use Rattle.phases.specs.Phases.{opening, fresh}
use Rattle.rosenbrock.specs.Readers.{answered, read_of}
use Rattle.rosenbrock.specs.Stepper.{Call, attempt, attempt_to, supply, fail, accept, reject, inject_derivative, reset, read, called, needed, trimmed, untrimmed, result, stepped}
use Rattle.rosenbrock.proofs.Guards.{guarded_either, guarded_passed, done_passed}
use Rattle.lists.specs.Run.{accepted_in}
use Rattle.lists.specs.Accepting.{is_done, sets_accepted, OthersLeaveIt, AcceptTakesTheCandidate, ResetTakesBoth}
use Rattle.lists.proofs.Fresh.{reset_result}

module _ (fx : Fixed) where
  -- the outcome of c has the time and the state as they were, unless c set them
  abbrev Leaves : Call → Progress → Lent → Out → Type 0
  Leaves c x m o = sets_accepted c o.answer ≡ false → (o.progress.time ≡ x.time) × (o.lent.state ≡ m.state)

  guarded_leaves : (c : Call) (tests : List Test) (x : Progress) (m : Lent) (o : Out) → Leaves c x m o → Leaves c x m (guarded tests x m o)
  unfolding refusal
  guarded_leaves c tests x m o h = guarded_either tests x m o (λ (q : Out). Leaves c x m q) (λ k _. (refl, refl)) (λ _. h)

  settle_leaves : (c : Call) (x : Progress) (m : Lent) (r : Stopped) → Leaves c x m (settle fx x m r)
  unfolding settle progress_after
  settle_leaves c x m r _ = (refl, refl)

  attempt_by_leaves : (c : Call) (file : List ℕ) (step : Float) (jacobian partial : Bool) (x : Progress) (m : Lent)
      → Leaves c x m (attempt_by fx file step jacobian partial x m)
  unfolding attempt_by opened opening
  attempt_by_leaves c file step jacobian partial x m = guarded_leaves c _ x m _ (settle_leaves c (opening step jacobian partial x) m _)

  towards_leaves : (c : Call) (e : Result Float Refusal) (file : List ℕ) (jacobian partial : Bool) (x : Progress) (m : Lent)
      → Leaves c x m (towards e fx file jacobian partial x m)
  unfolding towards refusal
  towards_leaves c (Ok step) file jacobian partial x m = attempt_by_leaves c file step jacobian partial x m
  towards_leaves c (Err k) file jacobian partial x m = λ _. (refl, refl)

  called_leaves : (c : Call) (x : Progress) (m : Lent) → Leaves c x m (called fx c x m)
  unfolding called attempt_of attempt_to_of supply_of fail_of accept_of reject_of inject_of reset_of read_of failed accepted rejected injected restarted answered progress_after sets_accepted is_done
  called_leaves (attempt file step jacobian partial) x m =
      let c = attempt file step jacobian partial in guarded_leaves c _ x m _ (attempt_by_leaves c file step jacobian partial x m)
  called_leaves (attempt_to file endpoint proposal jacobian partial) x m =
      let c = attempt_to file endpoint proposal jacobian partial in guarded_leaves c _ x m _ (towards_leaves c _ file jacobian partial x m)
  called_leaves (supply file values) x m = guarded_leaves (supply file values) _ x m _ (settle_leaves (supply file values) x m _)
  called_leaves fail x m = guarded_leaves fail _ x m (failed x m) (λ _. (refl, refl))
  called_leaves (accept f) x m = guarded_leaves (accept f) _ x m (accepted fx x m) (λ e. absurd (true≢false e))
  called_leaves (reject f) x m = guarded_leaves (reject f) _ x m (rejected x m) (λ _. (refl, refl))
  called_leaves (inject_derivative derivative) x m =
      guarded_leaves (inject_derivative derivative) _ x m (injected fx derivative x m) (λ _. (refl, refl))
  called_leaves (reset time state) x m = guarded_leaves (reset time state) _ x m (restarted time state m) (λ e. absurd (true≢false e))
  called_leaves (read q) x m = guarded_leaves (read q) _ x m (answered q fx x m) (λ _. (refl, refl))

pub others_leave_it : OthersLeaveIt
unfolding stepped result accepted_in untrimmed trimmed
others_leave_it c y h =
    let l = called_leaves y.stepper.fixed c y.stepper.progress (trimmed (needed y.stepper.fixed) y.lent) h in
    λ i. record { time = l.0 i; state = l.1 i }

pub accept_takes_the_candidate : AcceptTakesTheCandidate
unfolding stepped result called accept_of accepted accepted_in untrimmed
accept_takes_the_candidate f y e =
    let fx = y.stepper.fixed in
    let x = y.stepper.progress in
    let m = trimmed (needed fx) y.lent in
    let p = done_passed _ x m (accepted fx x m) e in
    record {
      pending = decision_passed fx x m p;
      takes = ap (λ (o : Out). record { time = o.progress.time; state = o.lent.state }) (guarded_passed _ x m (accepted fx x m) p);
    }

pub reset_takes_both : ResetTakesBoth
unfolding stepped accepted_in untrimmed restarted fresh cleared
reset_takes_both time state y e =
    ap (λ (o : Out). record { time = o.progress.time; state = o.lent.state }) (reset_result y time state e)
