-- In a list of calls record and memory always fit each other: the first tests never refuse, and no column or stage out of range is asked for,
-- whatever the host supplies and whatever the kernels answer. Assumes nothing.
use mathlib.Core.Path.{◌≡◌, sym, ◌∙◌, subst}
use Prim.Native.Nat.{ℕ}
use mathlib.Core.Bool.{Bool}
use mathlib.Core.List.{List, [], ◌∷◌}
use lib.ListN.{length}
use lib.Ieee.{Float}
use Rattle.std.specs.Prelude.{Result, Ok, Err}
use Rattle.stepping.specs.declared.Refusal.{Refusal}
use Rattle.stepping.specs.Refusals.{Test, first_of}
use Rattle.time_difference.specs.declared.TimeDifferencePolicy.{TimeDifferencePolicy}
use Rattle.attempts.specs.Attempt.{Stopped}
use Rattle.attempts.proofs.Requests.{InRange, start_fits, resume_fits}
use Rattle.refusals.specs.declared.Fixed.{Fixed}
use Rattle.refusals.specs.declared.Progress.{Progress}
use Rattle.refusals.specs.Answers.{Lent}
use Rattle.rosenbrock.specs.Calls.{Out, refusal, guarded, given_by, progress_after, settle, opened, attempt_by, attempt_of, towards, attempt_to_of, supply_of, failed, fail_of, accepted, accept_of, rejected, reject_of, injected, inject_of, cleared, restarted, reset_of}
use Rattle.phases.specs.Phases.{opening, fresh}
use Rattle.rosenbrock.specs.Readers.{answered, read_of}
use Rattle.rosenbrock.specs.Stepper.{Call, attempt, attempt_to, supply, fail, accept, reject, inject_derivative, reset, read, called, System, needed, trimmed, result, stepped, made, fixed_by, made_of, make}
use Rattle.refusals.proofs.Requests.{nothing_fits, fits_after, in_range}
use Rattle.rosenbrock.proofs.Guards.{guarded_either}
use Rattle.rosenbrock.proofs.Lengths.{OutLong, opened_keeps, resumed_keeps, accepted_keeps, injected_keeps, restarted_keeps}
use Rattle.rosenbrock.proofs.Memory.{memory_after}
use Rattle.refusals.proofs.Fitting.{LentShape, candidate_length, Fits}
use Rattle.refusals.proofs.Passed.{supply_passed, reset_passed, making_passed}
use Rattle.lists.specs.Run.{after}
use Rattle.lists.proofs.Fresh.{made_is, made_passed, made_memory}

-- the memory that a call leaves
shape_after : (fx : Fixed) (m : Lent) (o : Out) → LentShape fx m → OutLong m o → length o.lent.state ≡ fx.n → LentShape fx o.lent
shape_after fx m o h l e = rw (e ∙ sym h.of_state, l.of_work, l.of_pivots) h

module _ (fx : Fixed) where
  abbrev pub FitsAfter : Out → Type 0
  FitsAfter o = Fits fx o.progress o.lent

  guarded_fits : (tests : List Test) (x : Progress) (m : Lent) (o : Out) → Fits fx x m → (first_of tests ≡ Ok tt → FitsAfter o) → FitsAfter (guarded tests x m o)
  unfolding refusal
  guarded_fits tests x m o h g = guarded_either tests x m o FitsAfter (λ k. h) g

  settle_fits : (x : Progress) (m : Lent) (r : Stopped) → LentShape fx m → OutLong m (settle fx x m r) → InRange fx.n fx.s r → FitsAfter (settle fx x m r)
  unfolding settle progress_after
  settle_fits x m r h l e =
      record { shape = shape_after fx m (settle fx x m r) h l h.of_state; request = fits_after fx.n fx.s r.stop.ending e.ending }

  attempt_by_fits : (file : List ℕ) (step : Float) (jacobian partial : Bool) (x : Progress) (m : Lent) → Fits fx x m → FitsAfter (attempt_by fx file step jacobian partial x m)
  unfolding attempt_by opened given_by
  attempt_by_fits file step jacobian partial x m h =
      guarded_fits _ x m _ h
      (λ _. settle_fits (opening step jacobian partial x) m _ h.shape (opened_keeps fx (opening step jacobian partial x) m file)
      (start_fits _ h.shape.s_from_1 _))

  towards_fits : (e : Result Float Refusal) (file : List ℕ) (jacobian partial : Bool) (x : Progress) (m : Lent) → Fits fx x m → FitsAfter (towards e fx file jacobian partial x m)
  unfolding towards refusal
  towards_fits (Ok step) file jacobian partial x m h = attempt_by_fits file step jacobian partial x m h
  towards_fits (Err k) file jacobian partial x m h = h

  failed_fits : (x : Progress) (m : Lent) → Fits fx x m → FitsAfter (failed x m)
  unfolding failed progress_after
  failed_fits x m h = record { shape = h.shape; request = nothing_fits fx.n fx.s }

  accepted_fits : (x : Progress) (m : Lent) → Fits fx x m → FitsAfter (accepted fx x m)
  unfolding accepted
  accepted_fits x m h =
      record { shape = shape_after fx m (accepted fx x m) h.shape (accepted_keeps fx x m) (candidate_length fx m h.shape); request = nothing_fits fx.n fx.s }

  rejected_fits : (x : Progress) (m : Lent) → Fits fx x m → FitsAfter (rejected x m)
  unfolding rejected progress_after
  rejected_fits x m h = record { shape = h.shape; request = nothing_fits fx.n fx.s }

  injected_fits : (derivative : List Float) (x : Progress) (m : Lent) → Fits fx x m → FitsAfter (injected fx derivative x m)
  unfolding injected progress_after
  injected_fits derivative x m h =
      record { shape = shape_after fx m (injected fx derivative x m) h.shape (injected_keeps fx x m derivative) h.shape.of_state; request = h.request }

  restarted_fits : (time : Float) (state : List Float) (m : Lent) → LentShape fx m → length state ≡ fx.n → FitsAfter (restarted time state m)
  unfolding restarted fresh cleared
  restarted_fits time state m h e =
      record { shape = shape_after fx m (restarted time state m) h (restarted_keeps time state m) e; request = nothing_fits fx.n fx.s }

  pub called_fits : (c : Call) (x : Progress) (m : Lent) → Fits fx x m → FitsAfter (called fx c x m)
  unfolding called attempt_of attempt_to_of supply_of given_by fail_of accept_of reject_of inject_of reset_of read_of answered
  called_fits (attempt file step jacobian partial) x m h = guarded_fits _ x m _ h (λ _. attempt_by_fits file step jacobian partial x m h)
  called_fits (attempt_to file endpoint proposal jacobian partial) x m h = guarded_fits _ x m _ h (λ _. towards_fits _ file jacobian partial x m h)
  called_fits (supply file values) x m h =
      guarded_fits _ x m _ h
      (λ z. settle_fits x m _ h.shape (resumed_keeps fx x m file _ values)
      (resume_fits _ h.shape.s_from_1 _ values _ (in_range fx.n fx.s x.request x.stage h.request (supply_passed fx x m file values z))))
  called_fits fail x m h = guarded_fits _ x m _ h (λ _. failed_fits x m h)
  called_fits (accept f) x m h = guarded_fits _ x m _ h (λ _. accepted_fits x m h)
  called_fits (reject f) x m h = guarded_fits _ x m _ h (λ _. rejected_fits x m h)
  called_fits (inject_derivative derivative) x m h = guarded_fits _ x m _ h (λ _. injected_fits derivative x m h)
  called_fits (reset time state) x m h = guarded_fits _ x m _ h (λ z. restarted_fits time state m h.shape (reset_passed fx time state x m z).size)
  called_fits (read q) x m h = guarded_fits _ x m _ h (λ _. h)

-- ---- a making, and a run after it

abbrev pub AllFits : System → Type 0
AllFits y = Fits y.stepper.fixed y.stepper.progress (trimmed (needed y.stepper.fixed) y.lent)

module _ (file : List ℕ) (policy : TimeDifferencePolicy) (time : Float) (m : Lent) (y : System) (e : make file policy time m ≡ made y) where
  abbrev fx : Fixed
  fx = fixed_by file policy m

  lent_shape : LentShape fx (trimmed (needed fx) m)
  unfolding fixed_by trimmed
  lent_shape = (making_passed file time (trimmed (needed fx) m) (made_passed file policy time m y e)).shape

  new_fits : AllFits (made_of file policy time m)
  unfolding made_of restarted trimmed
  new_fits =
      subst (λ (l : Lent). Fits fx (fresh time) l) (sym (made_memory file policy time m))
      (restarted_fits fx time m.state (trimmed (needed fx) m) lent_shape lent_shape.of_state)

  pub made_fits : AllFits y
  made_fits = subst (λ (z : System). AllFits z) (made_is file policy time m y e) new_fits

step_fits : (c : Call) (y : System) → AllFits y → AllFits (stepped c y).system
unfolding stepped result
step_fits c y h = subst (λ (m : Lent). Fits y.stepper.fixed (result c y).progress m) (sym (memory_after c y)) (called_fits y.stepper.fixed c _ _ h)

pub after_fits : (y : System) (cs : List Call) → AllFits y → AllFits (after y cs)
unfolding after
after_fits y [] h = h
after_fits y (c ∷ cs) h = after_fits (stepped c y).system cs (step_fits c y h)
