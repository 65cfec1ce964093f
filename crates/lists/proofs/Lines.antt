-- The order of refusals in the stepper's calls, and what the calls leave, one theorem each. `fits` says that the first tests are passed, `file_fits` those of the file. Assumes
-- nothing.
use Prim.Native.Nat.{ℕ}
use mathlib.Core.Path.{◌≡◌, refl, sym, ap, ◌∙◌}
use mathlib.Core.Bool.{Bool, true, false, not}
use mathlib.Core.List.{List, [], ◌++◌}
use lib.Ieee.{Float, eq}
use lib.ListN.{length}
use Rattle.float.specs.Operators.{◌⊕◌, ◌⊖◌, 𝟎}
use Rattle.vector.specs.Lists.{all_finite}
use Rattle.std.specs.Prelude.{Ok, Err}
use Rattle.stepping.specs.declared.Refusal.{Refusal}
use Rattle.stepping.specs.declared.Refusal.TheVariants.{Dimension, NonFinite, TableauFile, PendingCandidate, NoCandidate, NoRequest, AttemptOpen, HostFailure}
use Rattle.stepping.specs.Refusals.{Test, first_of}
use Rattle.stepping.specs.Time.{endpoint_step}
use Rattle.stepping.proofs.Refusals.{here, later, none, all_passed, is_refused}
use Rattle.time_difference.specs.declared.TimeDifferencePolicy.{TimeDifferencePolicy}
use Rattle.tableau.specs.Tableau.{stages_of}
use Rattle.tableau.specs.File.{tableau_of, accepts}
use Rattle.attempts.specs.Marks.{with_caches, nothing_counted, one_rejected}
use Rattle.refusals.specs.declared.Fixed.{Fixed}
use Rattle.refusals.specs.declared.Progress.{Progress}
use Rattle.refusals.specs.Requests.{is_pending, is_open}
use Rattle.refusals.specs.Answers.{Lent, refused, done}
use Rattle.refusals.specs.Tests.{shape_fits, fit_tests, file_tests, attempt_tests, step_tests, decision_tests, reset_tests}
use Rattle.rosenbrock.specs.Calls.{Out, refusal, guarded, progress_after, attempt_by, attempt_of, towards, attempt_to_of, supply_of, failed, fail_of, accepted, accept_of, rejected, reject_of, injected, inject_of, cleared, restarted, reset_of}
use Rattle.phases.specs.Phases.{opening, memo_accepted, fresh}
use Rattle.rosenbrock.specs.Stepper.{trimmed, needed, fixed_by, not_made, make, made_of}
use Rattle.rosenbrock.proofs.Guards.{guarded_passed, done_passed}

-- ---- a guard that refuses, and tests that follow others

refused_by : (tests : List Test) (x : Progress) (m : Lent) (o : Out) {k : Refusal} → first_of tests ≡ Err k → guarded tests x m o ≡ refusal x m k
unfolding guarded
refused_by tests x m o e = sym (is_refused (refusal x m) o e)

-- a call that was done
done_is : (tests : List Test) (x : Progress) (m : Lent) (o : Out) → (guarded tests x m o).answer ≡ done → guarded tests x m o ≡ o
done_is tests x m o e = guarded_passed tests x m o (done_passed tests x m o e)

module _ (fx : Fixed) (x : Progress) (m : Lent) (fits : first_of (fit_tests fx x m) ≡ Ok tt) where
  -- the tests after the first ones refuse
  then_refused : (rest : List Test) (o : Out) {k : Refusal} → first_of rest ≡ Err k → guarded (fit_tests fx x m ++ rest) x m o ≡ refusal x m k
  then_refused rest o e = refused_by (fit_tests fx x m ++ rest) x m o (all_passed _ rest fits ∙ e)

  -- ---- 18 comes first in accept, reject, inject_derivative and reset

  module _ (now_open : is_open x.request ≡ true) where
    pub accept_open : accept_of fx x m ≡ refusal x m AttemptOpen
    unfolding accept_of
    accept_open = then_refused _ _ (here AttemptOpen _ now_open)

    pub reject_open : reject_of fx x m ≡ refusal x m AttemptOpen
    unfolding reject_of
    reject_open = then_refused _ _ (here AttemptOpen _ now_open)

    pub inject_open : (derivative : List Float) → inject_of fx derivative x m ≡ refusal x m AttemptOpen
    unfolding inject_of
    inject_open derivative = then_refused _ _ (here AttemptOpen _ now_open)

    pub reset_open : (time : Float) (state : List Float) → reset_of fx time state x m ≡ refusal x m AttemptOpen
    unfolding reset_of
    reset_open time state = then_refused _ _ (here AttemptOpen _ now_open)

  -- ---- 17 comes first in fail

  module _ (not_open : is_open x.request ≡ false) where
    pub fail_idle : fail_of fx x m ≡ refusal x m NoRequest
    unfolding fail_of
    fail_idle = then_refused _ _ (here NoRequest _ (ap not not_open))

    -- 15 where no candidate is pending
    pub accept_without : is_pending x.request ≡ false → accept_of fx x m ≡ refusal x m NoCandidate
    unfolding accept_of
    accept_without h = then_refused _ _ (later AttemptOpen _ not_open (here NoCandidate [] (ap not h)))

  -- ---- attempts and supply are lent the file

  module _ (file : List ℕ) (file_fits : first_of (file_tests fx.s file) ≡ Ok tt) where
    pub attempt_open : (step : Float) (jacobian partial : Bool) → is_open x.request ≡ true → attempt_of fx file step jacobian partial x m ≡ refusal x m AttemptOpen
    unfolding attempt_of
    attempt_open step jacobian partial now_open = then_refused _ _ (all_passed (file_tests fx.s file) _ file_fits ∙ here AttemptOpen [] now_open)

    -- whatever is supplied, its length too
    pub supply_idle : (values : List Float) → is_open x.request ≡ false → supply_of fx file values x m ≡ refusal x m NoRequest
    unfolding supply_of
    supply_idle values not_open = then_refused _ _ (all_passed (file_tests fx.s file) _ file_fits ∙ here NoRequest _ (ap not not_open))

    module _ (not_open : is_open x.request ≡ false) where
      attempt_passed : first_of (attempt_tests fx file x m) ≡ Ok tt
      attempt_passed = all_passed _ _ fits ∙ all_passed (file_tests fx.s file) _ file_fits ∙ later AttemptOpen [] not_open none

      -- attempt tests pending, then the time; what it refuses changes nothing and is not counted
      pub attempt_pending : (step : Float) (jacobian partial : Bool) → is_pending x.request ≡ true → attempt_of fx file step jacobian partial x m ≡ refusal x m PendingCandidate
      unfolding attempt_of attempt_by
      attempt_pending step jacobian partial h =
          guarded_passed (attempt_tests fx file x m) x m _ attempt_passed ∙ refused_by (step_tests step x) x m _ (here PendingCandidate _ h)

      pub attempt_unreached : (step : Float) (jacobian partial : Bool) (k : Refusal) → first_of (step_tests step x) ≡ Err k
          → attempt_of fx file step jacobian partial x m ≡ refusal x m k
      unfolding attempt_of attempt_by
      attempt_unreached step jacobian partial k h =
          guarded_passed (attempt_tests fx file x m) x m _ attempt_passed ∙ refused_by (step_tests step x) x m _ h

      -- attempt_to works out endpoint_step first, so a wrong direction wins over a pending candidate
      pub endpoint_first : (endpoint proposal : Float) (jacobian partial : Bool) (k : Refusal) → endpoint_step x.time endpoint proposal ≡ Err k
          → attempt_to_of fx file endpoint proposal jacobian partial x m ≡ refusal x m k
      unfolding attempt_to_of towards
      endpoint_first endpoint proposal jacobian partial k h =
          guarded_passed (attempt_tests fx file x m) x m _ attempt_passed ∙ ap (λ e. towards e fx file jacobian partial x m) h

-- the effective step is the end minus the time
pub step_is_effective : (step : Float) (jacobian partial : Bool) (x : Progress) → (opening step jacobian partial x).step ≡ (x.time ⊕ step) ⊖ x.time
unfolding opening
step_is_effective step jacobian partial x = refl

-- making: 2 before 3
pub finite_before_kind : (file : List ℕ) (policy : TimeDifferencePolicy) (time : Float) (m : Lent) → accepts file ≡ true
    → let k = trimmed (needed (fixed_by file policy m)) m in
    shape_fits (length k.state) (stages_of (tableau_of file)) (length k.state) (length k.work) (length k.pivots) ≡ true
    → all_finite k.state ≡ false
    → make file policy time m ≡ not_made NonFinite
unfolding make
finite_before_kind file policy time m a b c =
    sym (is_refused not_made _ (later TableauFile _ (ap not a) (later Dimension _ (ap not b) (here NonFinite _ (ap not c)))))

-- ---- what the calls leave where they are not refused

module _ (fx : Fixed) (x : Progress) (m : Lent) where
  -- the new time is time plus effective step, not the view's end
  pub accept_time : (accept_of fx x m).answer ≡ done → (accept_of fx x m).progress.time ≡ x.time ⊕ x.step
  unfolding accept_of accepted
  accept_time e = ap (λ (o : Out). o.progress.time) (done_is (decision_tests fx x m) x m (accepted fx x m) e)

  -- accept clears both caches if the step was not 0
  pub accept_clears : eq x.step 𝟎 ≡ false → memo_accepted x ≡ with_caches false false x.memo
  unfolding memo_accepted
  accept_clears h = rw h refl

  pub accept_keeps : eq x.step 𝟎 ≡ true → memo_accepted x ≡ x.memo
  unfolding memo_accepted with_caches
  accept_keeps h = rw h refl

  -- reject clears neither, and counts
  pub reject_keeps : (reject_of fx x m).answer ≡ done → reject_of fx x m ≡ record { progress = progress_after x x.memo 0 0; lent = m; counted = one_rejected; answer = done }
  unfolding reject_of rejected
  reject_keeps e = done_is (decision_tests fx x m) x m (rejected x m) e

  -- inject_derivative sets the derivative and clears differentiation
  pub inject_caches : (derivative : List Float) → (injected fx derivative x m).progress.memo ≡ with_caches true false x.memo
  unfolding injected progress_after
  inject_caches derivative = refl

  -- reset leaves the record as a making does, drops a pending candidate and counts nothing
  pub reset_is_new : (time : Float) (state : List Float) → (reset_of fx time state x m).answer ≡ done
      → reset_of fx time state x m ≡ record { progress = fresh time; lent = cleared state m; counted = nothing_counted; answer = done }
  unfolding reset_of restarted
  reset_is_new time state e = done_is (reset_tests fx time state x m) x m (restarted time state m) e

  -- fail closes the attempt; caches and memory stay
  pub fail_closes : failed x m ≡ record { progress = progress_after x x.memo 0 0; lent = m; counted = nothing_counted; answer = refused HostFailure }
  unfolding failed
  fail_closes = refl

-- a new record: nothing cached, nothing asked, no candidate
pub making_progress : (file : List ℕ) (policy : TimeDifferencePolicy) (time : Float) (m : Lent) → (made_of file policy time m).stepper.progress ≡ fresh time
unfolding made_of
making_progress file policy time m = refl
