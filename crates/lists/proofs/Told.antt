-- What a call counts is told by its events. Assumes nothing.
use Prim.Native.Nat.{ℕ, ◌*◌}
use mathlib.Core.Path.{◌≡◌, refl, sym, ap, ◌∙◌}
use mathlib.Core.Bool.{Bool, true, false, not, ◌&&◌, ◌||◌, cond}
use mathlib.Core.List.{List}
use lib.Ieee.{Float, eq}
use Rattle.std.specs.Prelude.{Result, Ok, Err}
use Rattle.float.specs.Operators.{𝟎}
use Rattle.float.proofs.Cases.{both, and_no, and_no_right}
use Rattle.vector.specs.Lists.{all_finite}
use Rattle.vector.specs.Parts.{part}
use Rattle.stepping.specs.declared.Refusal.{Refusal}
use Rattle.stepping.specs.Refusals.{Test, first_of}
use Rattle.stepping.specs.Time.{endpoint_step}
use Rattle.tableau.specs.Tableau.{c_of}
use Rattle.tableau.specs.File.{tableau_of}
use Rattle.stages.specs.Layout.{time_partial_at, jacobian_at}
use Rattle.stages.specs.Method.{stage_matrix}
use Rattle.attempts.specs.Marks.{Counted, nothing_counted, one_attempt}
use Rattle.attempts.specs.Attempt.{Ending, Asks, Ends, Shows, start, resume}
use Rattle.refusals.specs.declared.Fixed.{Fixed}
use Rattle.refusals.specs.declared.Progress.{Progress}
use Rattle.refusals.specs.Requests.{ask_of}
use Rattle.refusals.specs.Answers.{Answer, Lent, refused, answer_of, request_of}
use Rattle.refusals.specs.Tests.{attempt_tests, step_tests, supply_tests}
use Rattle.refusals.proofs.Fitting.{LentShape, fits_passed}
use Rattle.refusals.proofs.Passed.{supply_passed, supply_values}
use Rattle.phases.specs.Phases.{opening}
use Rattle.rosenbrock.specs.Calls.{Out, refusal, guarded, given_by, scratch_by, settle, progress_after, opened, attempt_by, attempt_of, towards, attempt_to_of, supply_of, failed, fail_of, accepted, accept_of, rejected, reject_of, injected, inject_of, restarted, reset_of}
use Rattle.rosenbrock.specs.Readers.{answered, read_of}
use Rattle.rosenbrock.specs.Stepper.{Call, attempt, attempt_to, supply, fail, accept, reject, inject_derivative, reset, read, called, System, trimmed, result, stepped}
use Rattle.rosenbrock.proofs.Guards.{guarded_either}
use Rattle.rosenbrock.proofs.Memory.{memory_after}
use Rattle.lists.specs.Opening.{memory, pass, step_passes, opens}
use Rattle.lists.specs.Accepting.{is_done}
use Rattle.lists.specs.Caching.{supplies, awaited, is_derivative, two_probes, is_last_of_partial, derivative_came, partial_came, Caches}
use Rattle.lists.specs.Counting.{asks_derivative, is_accept, is_reject, is_stage, is_singular, file_of, derivative_at_hand, differentiation_at_hand, matrix, reaches_matrix, solves_first_at_once, Events, events}
use Rattle.lists.proofs.Known.{guarded_known, passes}
use Rattle.lists.proofs.Caches.{AllFollows, two_of, last_same}
use Rattle.lists.proofs.Tallied.{rhs_asked, singular}
use Rattle.lists.proofs.Reached.{start_claim, resume_claim}

-- ---- the answer tells how it stopped

answer_asks : (fx : Fixed) (x : Progress) (m : Lent) (e : Ending) → rhs_asked e ≡ asks_derivative (answer_of fx x m e)
unfolding answer_of asks_derivative request_of
answer_asks fx x m (Asks a) = refl
answer_asks fx x m (Ends k) = refl
answer_asks fx x m Shows = refl

answer_singular : (fx : Fixed) (x : Progress) (m : Lent) (e : Ending) → singular e ≡ is_singular (answer_of fx x m e)
unfolding answer_of is_singular
answer_singular fx x m (Asks a) = refl
answer_singular fx x m (Ends k) = refl
answer_singular fx x m Shows = refl

and_yes : (a : Bool) {b : Bool} → b ≡ true → (a && b) ≡ a
and_yes true e = e
and_yes false e = refl

-- ---- the events of a call as what it counts

-- the first stage takes the derivative at the accepted state
abbrev first_at_once : List ℕ → Bool
first_at_once file = eq (c_of (tableau_of file) 0) 𝟎

module _ (k : Caches) (c : Call) (y : System) (step : Float) (work : List Float) where
  -- by what is cached, whether what is supplied is the last of the time partial, the file, whether the first stage is solved at once, whether the call
  -- opens an attempt, whether it supplies what was asked, and what it answers
  abbrev tally : Bool → Bool → Bool → List ℕ → Bool → Bool → Bool → Bool → Bool → Bool → Bool → Counted
  tally dv V last file at_once op sup asks sing acc rej =
      let n = y.stepper.fixed.n in
      let D = cond op (not (eq step 𝟎) && dv) (sup && is_derivative (awaited y)) in
      let C = sup && (last && all_finite (part (time_partial_at n) n work)) in
      let R = ((D && V) || C) && all_finite (stage_matrix (tableau_of file) step n (part (jacobian_at n) (n * n) (memory y).work)) in
      record {
        attempts = op;
        rhs_evaluations = asks;
        accepted_steps = acc;
        rejected_steps = rej;
        jacobian_evaluations = D && not V;
        factorizations = R;
        linear_solves = (sup && is_stage (awaited y)) || (R && (not sing && at_once));
      }

  abbrev of_call : Answer → Counted
  of_call a =
      tally k.derivative k.differentiation (is_last_of_partial (two_probes y) (awaited y)) (file_of c) (first_at_once (file_of c)) (opens c y) (supplies c y)
      (asks_derivative a)
      (is_singular a)
      (is_accept c && is_done a)
      (is_reject c && is_done a)

pub record Told (k : Caches) (c : Call) (y : System) (o : Out) : Type 0 where
  pub told : o.counted ≡ of_call k c y o.progress.step o.lent.work o.answer

module _ (k : Caches) (c : Call) (y : System) where
  abbrev last : Bool
  last = is_last_of_partial (two_probes y) (awaited y)

  -- a refusal that changes nothing counts nothing
  refused_told : (j : Refusal) → opens c y ≡ false → supplies c y ≡ false → Told k c y (refusal y.stepper.progress (memory y) j)
  unfolding refusal asks_derivative is_done
  refused_told j p q =
      let r = refusal y.stepper.progress (memory y) j in
      record {
        told =
            λ i. tally k c y r.progress.step r.lent.work k.derivative k.differentiation last (file_of c) (first_at_once (file_of c)) (sym p i) (sym q i)
            false (is_singular (refused j)) (sym (and_no_right (is_accept c) refl) i) (sym (and_no_right (is_reject c) refl) i);
      }

  -- an attempt that opens
  opened_told : (file : List ℕ) (step : Float) (jacobian partial : Bool) → AllFollows k y → file_of c ≡ file → opens c y ≡ true → supplies c y ≡ false → is_accept c ≡ false
      → is_reject c ≡ false → LentShape y.stepper.fixed (memory y) → all_finite (memory y).state ≡ true
      → Told k c y (opened y.stepper.fixed file (opening step jacobian partial y.stepper.progress) (memory y))
  unfolding opened settle progress_after given_by scratch_by opening trimmed
  opened_told file step jacobian partial t f p q u v h finite =
      let fx = y.stepper.fixed in
      let m = memory y in
      let x = opening step jacobian partial y.stepper.progress in
      let o = opened fx file x m in
      let r = start (given_by fx file x m) (scratch_by one_attempt x m) in
      record {
        told =
            (start_claim (given_by fx file x m) m.work h.of_work h.of_state x.memo m.pivots).counts.counted
            ∙ (λ i. tally k c y o.progress.step o.lent.work (t.derivative i) (t.differentiation i) last (sym f i)
            ((and_yes (first_at_once file) finite ∙ ap first_at_once (sym f)) i) (sym p i) (sym q i)
            (answer_asks fx o.progress o.lent r.stop.ending i) (answer_singular fx o.progress o.lent r.stop.ending i) (sym (and_no (is_done o.answer) u) i)
            (sym (and_no (is_done o.answer) v) i));
      }

-- ---- each call

module _ (k : Caches) (y : System) (t : AllFollows k y) (finite : all_finite (memory y).state ≡ true) where
  abbrev fx : Fixed
  fx = y.stepper.fixed

  abbrev x : Progress
  x = y.stepper.progress

  abbrev m : Lent
  m = memory y

  supplied_told : (file : List ℕ) (values : List Float) → first_of (supply_tests fx file values x m) ≡ Ok tt
      → Told k (supply file values) y (settle fx x m (resume (given_by fx file x m) (ask_of x.request x.stage) values (scratch_by nothing_counted x m)))
  unfolding settle progress_after given_by scratch_by trimmed opens supplies file_of is_accept is_reject two_probes
  supplied_told file values e =
      let c = supply file values in
      let h = (fits_passed fx x m _ e).0.shape in
      let a = ask_of x.request x.stage in
      let r = resume (given_by fx file x m) a values (scratch_by nothing_counted x m) in
      let o = settle fx x m r in
      record {
        told =
            (resume_claim (given_by fx file x m) m.work h.of_work h.of_state x.memo m.pivots values a (supply_values fx x m file values e).0).counts.counted
            ∙ (λ i. tally k c y o.progress.step o.lent.work (t.derivative i) (t.differentiation i)
            (last_same a x.memo.two_probes (two_of fx x) (t.probes (supply_passed fx x m file values e)) i) file (and_yes (first_at_once file) finite i)
            false (sym (passes e) i && all_finite values)
            (answer_asks fx o.progress o.lent r.stop.ending i) (answer_singular fx o.progress o.lent r.stop.ending i) false false);
      }

  attempt_by_told : (c : Call) (file : List ℕ) (step : Float) (jacobian partial : Bool) (b : Bool) → opens c y ≡ (b && step_passes (Ok step) x) → b ≡ true → file_of c ≡ file
      → supplies c y ≡ false → is_accept c ≡ false → is_reject c ≡ false → LentShape fx m → Told k c y (attempt_by fx file step jacobian partial x m)
  unfolding attempt_by step_passes
  attempt_by_told c file step jacobian partial b p s f q u v h =
      guarded_known (λ (o : Out). Told k c y o) (step_tests step x) x m _ (λ j e. refused_told k c y j (p ∙ and_no_right b e) q)
      (λ e. opened_told k c y file step jacobian partial t f (p ∙ both s (passes e)) q u v h finite)

  towards_told : (c : Call) (r : Result Float Refusal) (file : List ℕ) (jacobian partial : Bool) (b : Bool) → opens c y ≡ (b && step_passes r x) → b ≡ true → file_of c ≡ file
      → supplies c y ≡ false → is_accept c ≡ false → is_reject c ≡ false → LentShape fx m → Told k c y (towards r fx file jacobian partial x m)
  unfolding towards step_passes
  towards_told c (Ok step) file jacobian partial b p s f q u v h = attempt_by_told c file step jacobian partial b p s f q u v h
  towards_told c (Err j) file jacobian partial b p s f q u v h = refused_told k c y j (p ∙ and_no_right b refl) q

  -- the others count at most themselves
  quiet : (c : Call) (tests : List Test) (o : Out) → opens c y ≡ false → supplies c y ≡ false → Told k c y o → Told k c y (guarded tests x m o)
  quiet c tests o p q h = guarded_either tests x m o (λ (r : Out). Told k c y r) (λ j. refused_told k c y j p q) (λ _. h)

  called_told : (c : Call) → Told k c y (called fx c x m)
  unfolding called attempt_of attempt_to_of supply_of fail_of accept_of reject_of inject_of reset_of read_of failed accepted rejected injected restarted answered opens supplies file_of is_accept is_reject is_done asks_derivative is_singular step_passes
  called_told (attempt file step jacobian partial) =
      let c = attempt file step jacobian partial in
      let tests = attempt_tests fx file x m in
      guarded_known (λ (o : Out). Told k c y o) tests x m _ (λ j e. refused_told k c y j (and_no _ e) refl)
      (λ e. attempt_by_told c file step jacobian partial (pass tests) refl (passes e) refl refl refl refl (fits_passed fx x m _ e).0.shape)
  called_told (attempt_to file endpoint proposal jacobian partial) =
      let c = attempt_to file endpoint proposal jacobian partial in
      let tests = attempt_tests fx file x m in
      guarded_known (λ (o : Out). Told k c y o) tests x m _ (λ j e. refused_told k c y j (and_no _ e) refl)
      (λ e. towards_told c (endpoint_step x.time endpoint proposal) file jacobian partial (pass tests) refl (passes e) refl refl refl refl (fits_passed fx x m _ e).0.shape)
  called_told (supply file values) =
      let c = supply file values in
      guarded_known (λ (o : Out). Told k c y o) (supply_tests fx file values x m) x m _ (λ j e. refused_told k c y j refl (and_no _ e)) (λ e. supplied_told file values e)
  called_told fail = quiet fail _ (failed x m) refl refl (record { told = refl })
  called_told (accept f) = quiet (accept f) _ (accepted fx x m) refl refl (record { told = refl })
  called_told (reject f) = quiet (reject f) _ (rejected x m) refl refl (record { told = refl })
  called_told (inject_derivative derivative) = quiet (inject_derivative derivative) _ (injected fx derivative x m) refl refl (record { told = refl })
  called_told (reset time state) = quiet (reset time state) _ (restarted time state m) refl refl (record { told = refl })
  called_told (read q) = quiet (read q) _ (answered q fx x m) refl refl (record { told = refl })

-- ---- one call

-- what is counted where these are the events
abbrev pub counted_of : Events → Counted
counted_of e =
    record {
      attempts = e.attempt_opened;
      rhs_evaluations = e.derivative_asked;
      accepted_steps = e.step_accepted;
      rejected_steps = e.step_rejected;
      jacobian_evaluations = e.jacobian_wanted;
      factorizations = e.matrix_reached;
      linear_solves = e.stage_solved;
    }

pub call_told : (k : Caches) (c : Call) (y : System) → AllFollows k y → all_finite (memory y).state ≡ true → (result c y).counted ≡ counted_of (events k c y)
unfolding stepped result events derivative_came partial_came derivative_at_hand differentiation_at_hand matrix reaches_matrix solves_first_at_once
call_told k c y t finite =
    let r = result c y in
    (called_told k y t finite c).told ∙ sym (λ i. of_call k c y r.progress.step (memory_after c y i).work r.answer)
