-- From what a call's code hands back to the one equation with `stepped`, call by call. Assumes nothing.
use Prim.Native.Nat.{ℕ, min, ◌+◌, ◌*◌, ◌-◌, ◌^◌, ◌≤◌}
use native.Mathlib.Omega.{arith}
use mathlib.Core.Path.{◌≡◌, refl, sym, ap, ◌∙◌}
use mathlib.Core.Bool.{true, false}
use mathlib.Core.List.{List, ◌++◌}
use lib.Ieee.{Float}
use lib.ListN.{length, take, drop, replicate, take-append-drop}
use lib.Seq.{take-take, length-take-le}
use Rattle.std.specs.Prelude.{Result, Ok, Err, ⊤}
use Rattle.std.proofs.Common.{add-one}
use Rattle.float.specs.Operators.{◌⊕◌, 𝟎}
use Rattle.float.specs.Counter.{saturating_increment}
use Rattle.vector.specs.Lists.{el}
use Rattle.vector.specs.Parts.{puts}
use Rattle.stepping.specs.declared.Refusal.{Refusal}
use Rattle.stepping.specs.declared.Refusal.TheVariants.{HostFailure}
use Rattle.stepping.specs.Refusals.{Test, first_of}
use Rattle.stepping.proofs.Refusals.{is_refused}
use Rattle.stages.specs.Layout.{needed_work}
use Rattle.attempts.specs.declared.Memo.{Memo}
use Rattle.attempts.specs.Marks.{Counted, with_caches, nothing_counted, one_accepted, one_rejected}
use Rattle.refusals.specs.declared.Progress.{Progress}
use Rattle.statistics.specs.declared.StepStatistics.{StepStatistics}
use Rattle.rosenbrock.specs.declared.RosenbrockStepper.{RosenbrockStepper}
use Rattle.rosenbrock.specs.declared.Answer.{Answer}
use Rattle.rosenbrock.specs.declared.Answer.TheVariants.{Done}
use Rattle.rosenbrock.specs.declared.Outcome.{Outcome}
use Rattle.refusals.specs.Answers.{Lent, lending, refused, candidate_of}
use Rattle.refusals.specs.Answers as Answers
use Rattle.refusals.specs.Tests.{decision_tests, fail_tests, inject_tests, reset_tests, decision_rest, fail_rest, inject_rest, reset_rest, lent_tests}
use Rattle.rosenbrock.specs.Calls.{Out, refusal, guarded, progress_after, accepted, accept_of, rejected, reject_of, failed, fail_of, injected, inject_of, cleared, restarted, reset_of}
use Rattle.phases.specs.Phases.{memo_accepted, fresh}
use Rattle.statistics.specs.Counters.{one_more, tallied}
use Rattle.rosenbrock.specs.Stepper.{Call, by_value, accept, reject, fail, inject_derivative, reset, called, needed, trimmed, untrimmed, result, stepped, next_by}
use Rattle.rosenbrock.specs.Outcomes.{system_of, answer_by, next_of}
use Rattle.rosenbrock.proofs.Guards.{guarded_passed}
use Rattle.rosenbrock.proofs.Readers.{untrimmed_same}
use Rattle.rosenbrock.proofs.Memory.{puts_front, cut}
use Rattle.refusals.proofs.Tested.{fitted, lent_work, vectors_in}
use Rattle.refusals.proofs.Fitting.{Shape}
use Rattle.refusals.proofs.Passed.{inject_size, reset_passed}

-- what the code hands back: the record as it was fixed, with what was moved
abbrev pub left : RosenbrockStepper → Progress → StepStatistics → Result Answer Refusal → Outcome
left y x t a = record { stepper = record { fixed = y.fixed; progress = x; statistics = t }; answer = a }

-- the record without its request, with another memo; one counter set
abbrev moved_on : Progress → Memo → Progress
moved_on x memo =
    record {
      time = x.time ⊕ x.step;
      step = x.step;
      end = x.end;
      host_jacobian = x.host_jacobian;
      host_time_partial = x.host_time_partial;
      request = 0;
      stage = 0;
      memo = memo;
    }

abbrev with_one_accepted : StepStatistics → ℕ → StepStatistics
with_one_accepted t count =
    record {
      attempts = t.attempts;
      rhs_evaluations = t.rhs_evaluations;
      accepted_steps = count;
      rejected_steps = t.rejected_steps;
      jacobian_evaluations = t.jacobian_evaluations;
      factorizations = t.factorizations;
      linear_solves = t.linear_solves;
    }

abbrev with_one_rejected : StepStatistics → ℕ → StepStatistics
with_one_rejected t count =
    record {
      attempts = t.attempts;
      rhs_evaluations = t.rhs_evaluations;
      accepted_steps = t.accepted_steps;
      rejected_steps = count;
      jacobian_evaluations = t.jacobian_evaluations;
      factorizations = t.factorizations;
      linear_solves = t.linear_solves;
    }

counted_up : (x : ℕ) {count : ℕ} → count ≡ min (x + 1) (2 ^ 64 - 1) → count ≡ saturating_increment x
unfolding saturating_increment
counted_up x e = rw add-one at e

module _ (y : RosenbrockStepper) (state work : List Float) (pivots : List ℕ) where
  abbrev m : Lent
  m = lending state work pivots

  abbrev cut_m : Lent
  cut_m = trimmed (needed y.fixed) m

  pub refusal_next : (r : Refusal) → next_of (left y y.progress y.statistics (Err r)) state work pivots ≡ next_by y m (refusal y.progress cut_m r)
  unfolding next_of answer_by refusal tallied one_more
  refusal_next r =
      λ i. record {
        system = record { stepper = y; lent = sym (untrimmed_same (needed y.fixed) m) i };
        answer = refused r;
      }

  -- tests that refuse leave everything, and tests that are passed change nothing
  pub guard_refuses : (tests : List Test) (o : Out) {r : Refusal} → first_of tests ≡ Err r
      → next_of (left y y.progress y.statistics (Err r)) state work pivots ≡ next_by y m (guarded tests y.progress cut_m o)
  unfolding guarded
  guard_refuses tests o {r} e = refusal_next r ∙ ap (next_by y m) (is_refused (refusal y.progress cut_m) o e)

  pub guard_passes : (tests : List Test) (o : Out) → first_of tests ≡ Ok tt → next_by y m o ≡ next_by y m (guarded tests y.progress cut_m o)
  guard_passes tests o e = ap (next_by y m) (sym (guarded_passed tests y.progress cut_m o e))

  module _ (c : Call) (tests : List Test) (o : Out) (same : result c (system_of y state work pivots) ≡ guarded tests y.progress cut_m o) where
    pub refused_next : {r : Refusal} → first_of tests ≡ Err r → next_of (left y y.progress y.statistics (Err r)) state work pivots ≡ stepped c (system_of y state work pivots)
    unfolding stepped
    refused_next e = guard_refuses tests o e ∙ ap (next_by y m) (sym same)

    pub passed_next : first_of tests ≡ Ok tt → next_by y m o ≡ stepped c (system_of y state work pivots)
    unfolding stepped
    passed_next e = guard_passes tests o e ∙ ap (next_by y m) (sym same)

  -- what the code leaves, where the memory and the answer are the defined ones
  left_next : (a : Result Answer Refusal) (x : Progress) (c : Counted) (l : Lent) {b : Answers.Answer} {s w : List Float} {p : List ℕ}
      → lending s w p ≡ untrimmed (needed y.fixed) m l
      → answer_by a y.fixed x (trimmed (needed y.fixed) (lending s w p)) ≡ b
      → next_of (left y x (tallied c y.statistics) a) s w p ≡ next_by y m (record { progress = x; lent = l; counted = c; answer = b })
  unfolding next_of
  left_next a x c l e h =
      λ i. record {
        system = record { stepper = record { fixed = y.fixed; progress = x; statistics = tallied c y.statistics }; lent = e i };
        answer = h i;
      }

  -- the work is left
  kept : (s : List Float) → lending s work pivots ≡ untrimmed (needed y.fixed) m (lending s cut_m.work pivots)
  unfolding untrimmed trimmed
  kept s = λ i. record { state = s; work = sym (take-append-drop (needed y.fixed) work) i; pivots = pivots }

  -- ---- accept, reject

  candidate_cut : take y.fixed.n work ≡ candidate_of y.fixed cut_m
  unfolding candidate_of trimmed needed
  candidate_cut =
      let n = y.fixed.n in
      sym (take-take n (needed_work n y.fixed.s) work (omega (arith, vectors_in n y.fixed.s)))

  module _ {k : Result ⊤ Refusal} (e : k ≡ first_of (lent_tests y.fixed y.progress (length state) (length work) (length pivots) ++ decision_rest y.progress)) where
    decided : k ≡ first_of (decision_tests y.fixed y.progress cut_m)
    decided = e ∙ cut y.fixed y.progress state work pivots _

    pub accept_refused : {r : Refusal} → k ≡ Err r → next_of (left y y.progress y.statistics (Err r)) state work pivots ≡ stepped (accept by_value) (system_of y state work pivots)
    unfolding result called accept_of
    accept_refused h = refused_next (accept by_value) _ _ refl (sym decided ∙ h)

    pub reject_refused : {r : Refusal} → k ≡ Err r → next_of (left y y.progress y.statistics (Err r)) state work pivots ≡ stepped (reject by_value) (system_of y state work pivots)
    unfolding result called reject_of
    reject_refused h = refused_next (reject by_value) _ _ refl (sym decided ∙ h)

    module _ (z : k ≡ Ok tt) where
      decision_shape : Shape y.fixed.n y.fixed.s (length state) (min (needed_work y.fixed.n y.fixed.s) (length work)) (length pivots)
      decision_shape = fitted y.fixed y.progress (length state) (length work) (length pivots) _ (sym e ∙ z)

      pub state_long : length state ≡ y.fixed.n
      state_long = decision_shape.of_state

      pub candidate_long : length (take y.fixed.n work) ≡ y.fixed.n
      candidate_long = length-take-le y.fixed.n work (omega (arith, lent_work decision_shape, vectors_in y.fixed.n y.fixed.s))

      pub accept_done : {memo : Memo} {s : List Float} {count : ℕ} → memo ≡ memo_accepted y.progress → s ≡ take y.fixed.n work
          → count ≡ min (y.statistics.accepted_steps + 1) (2 ^ 64 - 1)
          → next_of (left y (moved_on y.progress memo) (with_one_accepted y.statistics count) (Ok Done)) s work pivots
          ≡ stepped (accept by_value) (system_of y state work pivots)
      unfolding result called accept_of accepted answer_by tallied one_more trimmed
      accept_done p q r0 =
          let r = counted_up _ r0 in
          (λ i. next_of (left y (moved_on y.progress (p i)) (with_one_accepted y.statistics (r i)) (Ok Done)) ((q ∙ candidate_cut) i) work pivots)
          ∙ left_next (Ok Done) (moved_on y.progress (memo_accepted y.progress)) one_accepted _ (kept (candidate_of y.fixed cut_m)) refl
          ∙ passed_next (accept by_value) _ _ refl (sym decided ∙ z)

      pub reject_done : {count : ℕ} → count ≡ min (y.statistics.rejected_steps + 1) (2 ^ 64 - 1)
          → next_of (left y (progress_after y.progress y.progress.memo 0 0) (with_one_rejected y.statistics count) (Ok Done)) state work pivots
          ≡ stepped (reject by_value) (system_of y state work pivots)
      unfolding result called reject_of rejected answer_by tallied one_more trimmed
      reject_done r0 =
          let r = counted_up _ r0 in
          (λ i. next_of (left y (progress_after y.progress y.progress.memo 0 0) (with_one_rejected y.statistics (r i)) (Ok Done)) state work pivots)
          ∙ left_next (Ok Done) (progress_after y.progress y.progress.memo 0 0) one_rejected _ (kept state) refl
          ∙ passed_next (reject by_value) _ _ refl (sym decided ∙ z)

  -- ---- fail

  module _ {k : Result ⊤ Refusal} (e : k ≡ first_of (lent_tests y.fixed y.progress (length state) (length work) (length pivots) ++ fail_rest y.progress)) where
    asked_of : k ≡ first_of (fail_tests y.fixed y.progress cut_m)
    asked_of = e ∙ cut y.fixed y.progress state work pivots _

    pub fail_refused : {r : Refusal} → k ≡ Err r → next_of (left y y.progress y.statistics (Err r)) state work pivots ≡ stepped fail (system_of y state work pivots)
    unfolding result called fail_of
    fail_refused h = refused_next fail _ _ refl (sym asked_of ∙ h)

    pub fail_done : k ≡ Ok tt → next_of (left y (progress_after y.progress y.progress.memo 0 0) y.statistics (Err HostFailure)) state work pivots ≡ stepped fail (system_of y state work pivots)
    unfolding result called fail_of failed answer_by tallied one_more trimmed
    fail_done z =
        left_next (Err HostFailure) (progress_after y.progress y.progress.memo 0 0) nothing_counted _ (kept state) refl
        ∙ passed_next fail _ _ refl (sym asked_of ∙ z)

  -- ---- inject_derivative

  module _ (derivative : List Float) {k : Result ⊤ Refusal} (e : k ≡ first_of (lent_tests y.fixed y.progress (length state) (length work) (length pivots)
      ++ inject_rest y.fixed derivative y.progress)) where
    injectable : k ≡ first_of (inject_tests y.fixed derivative y.progress cut_m)
    injectable = e ∙ cut y.fixed y.progress state work pivots _

    pub inject_refused : {r : Refusal} → k ≡ Err r → next_of (left y y.progress y.statistics (Err r)) state work pivots ≡ stepped (inject_derivative derivative) (system_of y state work pivots)
    unfolding result called inject_of
    inject_refused h = refused_next (inject_derivative derivative) _ _ refl (sym injectable ∙ h)

    module _ (z : k ≡ Ok tt) where
      inject_shape : Shape y.fixed.n y.fixed.s (length state) (min (needed_work y.fixed.n y.fixed.s) (length work)) (length pivots)
      inject_shape = fitted y.fixed y.progress (length state) (length work) (length pivots) _ (sym e ∙ z)

      inject_length : length derivative ≡ y.fixed.n
      inject_length = inject_size y.fixed y.progress cut_m derivative (sym injectable ∙ z)

      pub inject_small : y.fixed.n ≤ 32
      inject_small = inject_shape.n_to_32

      pub inject_room : 3 * y.fixed.n + length derivative ≤ length work
      inject_room = omega (arith, inject_length, lent_work inject_shape, vectors_in y.fixed.n y.fixed.s)

      pub inject_done : {w : List Float} → w ≡ puts work (3 * y.fixed.n) (el derivative) (length derivative)
          → next_of (left y (progress_after y.progress (with_caches true false y.progress.memo) y.progress.request y.progress.stage) y.statistics (Ok Done)) state w pivots
          ≡ stepped (inject_derivative derivative) (system_of y state work pivots)
      unfolding result called inject_of injected answer_by tallied one_more untrimmed trimmed needed
      inject_done q =
          let n = y.fixed.n in
          let at_n = q ∙ ap (puts work (3 * n) (el derivative)) inject_length
          ∙ sym (puts_front (needed_work n y.fixed.s) work (3 * n) (el derivative) n (omega (arith, vectors_in n y.fixed.s)) (lent_work inject_shape)) in
          left_next (Ok Done) _ nothing_counted (injected y.fixed derivative y.progress cut_m).lent (λ i. lending state (at_n i) pivots) refl
          ∙ passed_next (inject_derivative derivative) _ _ refl (sym injectable ∙ z)

  -- ---- reset

  module _ (time : Float) (values : List Float) {k : Result ⊤ Refusal} (e : k ≡ first_of (lent_tests y.fixed y.progress (length state) (length work) (length pivots)
      ++ reset_rest y.fixed time values y.progress)) where
    resettable : k ≡ first_of (reset_tests y.fixed time values y.progress cut_m)
    resettable = e ∙ cut y.fixed y.progress state work pivots _

    pub reset_refused : {r : Refusal} → k ≡ Err r → next_of (left y y.progress y.statistics (Err r)) state work pivots ≡ stepped (reset time values) (system_of y state work pivots)
    unfolding result called reset_of
    reset_refused h = refused_next (reset time values) _ _ refl (sym resettable ∙ h)

    module _ (z : k ≡ Ok tt) where
      pub reset_shape : Shape y.fixed.n y.fixed.s (length state) (min (needed_work y.fixed.n y.fixed.s) (length work)) (length pivots)
      reset_shape = fitted y.fixed y.progress (length state) (length work) (length pivots) _ (sym e ∙ z)

      pub reset_length : length state ≡ length values
      reset_length = reset_shape.of_state ∙ sym (reset_passed y.fixed time values y.progress cut_m (sym resettable ∙ z)).size

      pub reset_done : {need : ℕ} {x : Progress} {s w : List Float} {p : List ℕ} → need ≡ needed_work y.fixed.n y.fixed.s → x ≡ fresh time
          → s ≡ values → w ≡ replicate (length (take need work)) 𝟎 → p ≡ replicate (length pivots) 0
          → next_of (left y x y.statistics (Ok Done)) s (w ++ drop need work) p ≡ stepped (reset time values) (system_of y state work pivots)
      unfolding result called reset_of restarted cleared answer_by tallied one_more untrimmed trimmed needed
      reset_done a b c d f =
          let g = d ∙ ap (λ (j : ℕ). replicate (length (take j work)) 𝟎) a in
          (λ i. next_of (left y (b i) y.statistics (Ok Done)) (c i) (g i ++ drop (a i) work) (f i))
          ∙ left_next (Ok Done) (fresh time) nothing_counted (cleared values cut_m) refl refl
          ∙ passed_next (reset time values) _ _ refl (sym resettable ∙ z)
