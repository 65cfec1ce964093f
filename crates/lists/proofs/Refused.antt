-- A call that is refused changes nothing, or it closes the attempt that was open or that it opened. Assumes nothing.
use Prim.Native.Nat.{ℕ}
use mathlib.Core.Path.{◌≡◌, refl, sym, ap, ◌∙◌}
use mathlib.Core.Bool.{Bool, true, false, ◌&&◌, ◌||◌}
use mathlib.Core.List.{List, [], ◌∷◌, ◌++◌}
use lib.Dec.{eqb}
use lib.Ieee.{Float}
use Rattle.float.proofs.Cases.{never, and_no, and_no_right, both, neither, or_yes, or_yes_right}
use Rattle.std.specs.Prelude.{Result, Ok, Err, is_ok}
use Rattle.stepping.specs.declared.Refusal.{Refusal}
use Rattle.stepping.specs.declared.Refusal.TheVariants.{Dimension, UnsupportedTableau, TableauFile, PivotRange, NoCandidate, NoRequest, AttemptOpen}
use Rattle.stepping.specs.Refusals.{Test, ◌when◌, first_of}
use Rattle.stepping.specs.Time.{endpoint_step}
use Rattle.stepping.proofs.Refusals.{passed, held}
use Rattle.tableau.specs.Tableau.{stages_of}
use Rattle.tableau.specs.File.{tableau_of, accepts}
use Rattle.attempts.specs.Marks.{Marks, Counted, nothing_counted, one_attempt}
use Rattle.attempts.specs.Attempt.{Ending, Asks, Ends, Shows, Stopped, stopped}
use Rattle.refusals.specs.declared.Fixed.{Fixed}
use Rattle.refusals.specs.declared.Progress.{Progress}
use Rattle.refusals.specs.Requests.{is_open, request_after, stage_after}
use Rattle.refusals.specs.Answers.{Lent, refused, done, answer_of}
use Rattle.refusals.specs.Tests.{open_test, candidate_test, fit_tests, file_tests, attempt_tests, step_tests, supply_tests, fail_tests, decision_tests}
use Rattle.refusals.proofs.Fitting.{fits_passed}
use Rattle.refusals.proofs.Passed.{supply_passed}
use Rattle.phases.specs.Phases.{opening}
use Rattle.statistics.specs.Counters.{one_more, tallied}
use Rattle.rosenbrock.specs.Calls.{Out, refusal, guarded, scratch_by, progress_after, settle, opened, attempt_by, attempt_of, towards, attempt_to_of, supply_of, failed, fail_of, accepted, accept_of, rejected, reject_of, injected, inject_of, restarted, reset_of}
use Rattle.rosenbrock.specs.Readers.{Query, the_request, the_time, the_state, the_derivative, the_statistics, the_copy, the_start, the_end, the_candidate, the_error, the_stages, the_rhs_stages, the_jacobian, the_time_partial, the_stage, the_rhs_stage, query_tests, answered, read_of}
use Rattle.rosenbrock.specs.Stepper.{Call, attempt, attempt_to, supply, fail, accept, reject, inject_derivative, reset, read, called, System, needed, trimmed, untrimmed, next_by, result, stepped}
use Rattle.rosenbrock.proofs.Memory.{tail_after, work_after, pivots_after}
use Rattle.rosenbrock.proofs.Readers.{untrimmed_same}
use Rattle.lists.specs.Opening.{memory, pass, step_passes, opens}
use Rattle.lists.specs.Refused.{ends_attempts, closes, Closed, EveryRefusal}
use Rattle.lists.proofs.Firsts.{First, none_first, or_first, either_known}
use Rattle.lists.proofs.Endings.{Ended, steps_of, start_ends, resume_ends}

-- ---- the tests that end no attempt

abbrev Harmless : Refusal → Type 0
Harmless k = ends_attempts k ≡ false

module _ (fx : Fixed) (x : Progress) (m : Lent) where
  -- after the first tests, and after those of a file
  after_fit : (rest : List Test) → First Harmless rest → First Harmless (fit_tests fx x m ++ rest)
  unfolding ends_attempts
  after_fit rest h = or_first Harmless Dimension _ _ refl (λ _. or_first Harmless Dimension _ rest refl (λ _. h))

  after_file : (file : List ℕ) (rest : List Test) → First Harmless rest → First Harmless (file_tests fx.s file ++ rest)
  unfolding ends_attempts
  after_file file rest h =
      or_first Harmless TableauFile _ _ refl
      (λ _. or_first Harmless UnsupportedTableau _ _ refl (λ _. or_first Harmless Dimension _ rest refl (λ _. h)))

  -- one that is the last
  last_first : (k : Refusal) (b : Bool) → Harmless k → First Harmless ((k when b) ∷ [])
  last_first k b h = or_first Harmless k b [] h (λ _. none_first Harmless)

  attempt_first : (file : List ℕ) → First Harmless (attempt_tests fx file x m)
  unfolding ends_attempts
  attempt_first file = after_fit _ (after_file file _ (last_first AttemptOpen _ refl))

  supply_first : (file : List ℕ) (values : List Float) → First Harmless (supply_tests fx file values x m)
  unfolding ends_attempts
  supply_first file values =
      after_fit _
      (after_file file _
      (or_first Harmless NoRequest _ _ refl (λ _. or_first Harmless Dimension _ _ refl (λ _. last_first PivotRange _ refl))))

  fail_first : First Harmless (fail_tests fx x m)
  unfolding ends_attempts
  fail_first = after_fit _ (last_first NoRequest _ refl)

  -- of a step
  step_first : (rest : List Test) → First Harmless rest → First Harmless (open_test x ∷ candidate_test x ∷ rest)
  unfolding ends_attempts
  step_first rest h = or_first Harmless AttemptOpen _ _ refl (λ _. or_first Harmless NoCandidate _ rest refl (λ _. h))

  decision_first : First Harmless (decision_tests fx x m)
  decision_first = after_fit _ (step_first [] (none_first Harmless))

  -- where an attempt is open 18 hides the tests of what is handed over
  module _ (o : is_open x.request ≡ true) where
    hidden : (rest : List Test) → First Harmless (fit_tests fx x m ++ (open_test x ∷ rest))
    unfolding ends_attempts
    hidden rest = after_fit _ (or_first Harmless AttemptOpen _ rest refl (λ n. never o n))

  query_first : (q : Query) → First Harmless (query_tests q fx x)
  unfolding query_tests ends_attempts
  query_first the_request = last_first NoRequest _ refl
  query_first the_time = last_first AttemptOpen _ refl
  query_first the_state = last_first AttemptOpen _ refl
  query_first the_derivative = last_first AttemptOpen _ refl
  query_first the_statistics = last_first AttemptOpen _ refl
  query_first (the_copy k) = or_first Harmless AttemptOpen _ _ refl (λ _. last_first Dimension _ refl)
  query_first the_start = step_first [] (none_first Harmless)
  query_first the_end = step_first [] (none_first Harmless)
  query_first the_candidate = step_first [] (none_first Harmless)
  query_first the_error = step_first [] (none_first Harmless)
  query_first the_stages = step_first [] (none_first Harmless)
  query_first the_rhs_stages = step_first [] (none_first Harmless)
  query_first the_jacobian = step_first [] (none_first Harmless)
  query_first the_time_partial = step_first [] (none_first Harmless)
  query_first (the_stage i) = step_first _ (last_first Dimension _ refl)
  query_first (the_rhs_stage i) = step_first _ (last_first Dimension _ refl)

  -- no attempt is open where an attempt's tests are passed
  none_open : (file : List ℕ) → first_of (attempt_tests fx file x m) ≡ Ok tt → is_open x.request ≡ false
  none_open file e =
      let t₁ = held TableauFile (accepts file) _ (fits_passed fx x m _ e).1 in
      let t₂ = passed UnsupportedTableau (eqb (tableau_of file).counts.kind 1) _ t₁.1 in
      let t₃ = held Dimension (eqb (stages_of (tableau_of file)) fx.s) _ t₂.1 in
      (passed AttemptOpen (is_open x.request) [] t₃.1).0

-- ---- one call on the needed memory

-- where an attempt is closed, of the record x and the memory m
record ClosedIn (now : Bool) (x : Progress) (m : Lent) (o : Out) : Type 0 where
  request : o.progress.request ≡ 0
  stage : o.progress.stage ≡ 0
  counted : steps_of o.counted ≡ (now, false, false)
  time : o.progress.time ≡ x.time
  state : o.lent.state ≡ m.state

-- now: the call opens an attempt
module _ (now : Bool) (fx : Fixed) (x : Progress) (m : Lent) where
  abbrev has_open : Bool
  has_open = is_open x.request || now

  record Law (o : Out) : Type 0 where
    unchanged : (k : Refusal) → o.answer ≡ refused k → (ends_attempts k && has_open) ≡ false → o ≡ refusal x m k
    closed : (k : Refusal) → o.answer ≡ refused k → (ends_attempts k && has_open) ≡ true → ClosedIn now x m o

  refusal_law : (k : Refusal) → (ends_attempts k && has_open) ≡ false → Law (refusal x m k)
  unfolding refusal
  refusal_law k h = record { unchanged = λ j e _. cc; closed = λ j e s. never s cc }

  guarded_law : (tests : List Test) (o : Out) → ((k : Refusal) → first_of tests ≡ Err k → (ends_attempts k && has_open) ≡ false)
      → (first_of tests ≡ Ok tt → Law o) → Law (guarded tests x m o)
  unfolding guarded
  guarded_law tests o f g = either_known (refusal x m) (λ (q : Out). Law q) (first_of tests) o (λ k e. refusal_law k (f k e)) g

  harmless_law : (tests : List Test) (o : Out) → First Harmless tests → (first_of tests ≡ Ok tt → Law o) → Law (guarded tests x m o)
  harmless_law tests o f g = guarded_law tests o (λ k e. and_no _ (f k e)) g

  -- an attempt that stops
  module _ (x' : Progress) (t : x'.time ≡ x.time) (d : Counted) (n : steps_of d ≡ (now, false, false)) (h : has_open ≡ true) where
    stopped_law : (marks : Marks) (e : Ending) (work : List Float) (pivots : List ℕ)
        → Ended d (stopped (record { marks = marks; ending = e }) work pivots)
        → Law (settle fx x' m (stopped (record { marks = marks; ending = e }) work pivots))
    unfolding settle progress_after request_after stage_after answer_of
    stopped_law marks (Asks a) work pivots s = record { unchanged = λ k e _. cc; closed = λ k e _. cc }
    stopped_law marks (Ends j) work pivots s =
        record {
          unchanged = λ k e z. never (both s.ending h) cc;
          closed = λ k e _. record { request = refl; stage = refl; counted = s.counted ∙ n; time = t; state = refl };
        }
    stopped_law marks Shows work pivots s = record { unchanged = λ k e _. cc; closed = λ k e _. cc }

    settle_law : (r : Stopped) → Ended d r → Law (settle fx x' m r)
    settle_law r s = stopped_law r.stop.marks r.stop.ending r.work r.pivots s

  -- a call that is done
  done_law : (o : Out) → o.answer ≡ done → Law o
  done_law o e = record { unchanged = λ k r _. cc; closed = λ k r _. cc }

  -- fail
  failed_law : is_open x.request ≡ true → now ≡ false → Law (failed x m)
  unfolding failed progress_after ends_attempts
  failed_law o n =
      record {
        unchanged = λ k e z. never (or_yes now o) cc;
        closed = λ k e _. record { request = refl; stage = refl; counted = cc; time = refl; state = refl };
      }

  -- attempt, attempt_to
  module _ (file : List ℕ) (jacobian partial : Bool) (n : is_open x.request ≡ false) where
    attempt_by_law : (step : Float) → now ≡ pass (step_tests step x) → Law (attempt_by fx file step jacobian partial x m)
    unfolding attempt_by opened opening scratch_by
    attempt_by_law step is =
        guarded_law _ _ (λ k e. and_no_right _ (neither n (is ∙ ap is_ok e)))
        (λ z. let yes : now ≡ true = is ∙ ap is_ok z in
        settle_law (opening step jacobian partial x) refl one_attempt (ap (λ (b : Bool). (b, false, false)) (sym yes))
        (or_yes_right (is_open x.request) yes) _ (start_ends one_attempt _ _ refl))

    towards_law : (r : Result Float Refusal) → now ≡ step_passes r x → Law (towards r fx file jacobian partial x m)
    unfolding towards step_passes
    towards_law (Ok step) is = attempt_by_law step is
    towards_law (Err k) is = refusal_law k (and_no_right _ (neither n is))

-- inject_derivative and reset: refused by what is handed over only where no attempt is open
unopened : (b : Bool) (k : Refusal) → (b ≡ true → Harmless k) → (ends_attempts k && (b || false)) ≡ false
unopened true k h = and_no _ (h refl)
unopened false k h = and_no_right _ refl

-- ---- a call on a stepper

module _ (y : System) where
  abbrev fx : Fixed
  fx = y.stepper.fixed

  abbrev x : Progress
  x = y.stepper.progress

  abbrev m : Lent
  m = memory y

  called_law : (c : Call) → Law (opens c y) fx x m (called fx c x m)
  unfolding called attempt_of attempt_to_of supply_of fail_of accept_of reject_of inject_of reset_of read_of accepted rejected injected restarted answered opens scratch_by
  called_law (attempt file step jacobian partial) =
      harmless_law _ fx x m _ _ (attempt_first fx x m file)
      (λ z. attempt_by_law _ fx x m file jacobian partial (none_open fx x m file z) step (ap (λ r. is_ok r && pass (step_tests step x)) z))
  called_law (attempt_to file endpoint proposal jacobian partial) =
      let r = endpoint_step x.time endpoint proposal in
      harmless_law _ fx x m _ _ (attempt_first fx x m file)
      (λ z. towards_law _ fx x m file jacobian partial (none_open fx x m file z) r (ap (λ q. is_ok q && step_passes r x) z))
  called_law (supply file values) =
      harmless_law false fx x m _ _ (supply_first fx x m file values)
      (λ z. settle_law false fx x m x refl nothing_counted refl (or_yes _ (supply_passed fx x m file values z)) _
      (resume_ends nothing_counted _ _ values _ refl))
  called_law fail =
      harmless_law false fx x m _ _ (fail_first fx x m)
      (λ z. failed_law false fx x m (held NoRequest (is_open x.request) [] (fits_passed fx x m _ z).1).0 refl)
  called_law (accept f) = harmless_law false fx x m _ _ (decision_first fx x m) (λ _. done_law false fx x m _ refl)
  called_law (reject f) = harmless_law false fx x m _ _ (decision_first fx x m) (λ _. done_law false fx x m _ refl)
  called_law (inject_derivative derivative) =
      guarded_law false fx x m _ _ (λ k e. unopened (is_open x.request) k (λ o. hidden fx x m o _ k e)) (λ _. done_law false fx x m _ refl)
  called_law (reset time state) =
      guarded_law false fx x m _ _ (λ k e. unopened (is_open x.request) k (λ o. hidden fx x m o _ k e)) (λ _. done_law false fx x m _ refl)
  called_law (read q) =
      harmless_law false fx x m _ _ (after_fit fx x m _ (query_first fx x m q)) (λ _. record { unchanged = λ k e _. cc; closed = λ k e _. cc })

  -- the whole memory
  refusal_leaves : (k : Refusal) → (next_by y.stepper y.lent (refusal x m k)).system ≡ y
  unfolding refusal tallied one_more
  refusal_leaves k = λ i. record { stepper = y.stepper; lent = untrimmed_same (needed fx) y.lent i }

  closed_by : (c : Call) → ClosedIn (opens c y) x m (result c y) → Closed (opens c y) y (stepped c y).system
  unfolding stepped tallied one_more untrimmed trimmed
  closed_by c h =
      let t = y.stepper.statistics in
      record {
        request = h.request;
        stage = h.stage;
        attempts = ap (λ (p : Bool × Bool × Bool). one_more p.0 t.attempts) h.counted;
        accepted_steps = ap (λ (p : Bool × Bool × Bool). one_more p.1 t.accepted_steps) h.counted;
        rejected_steps = ap (λ (p : Bool × Bool × Bool). one_more p.2 t.rejected_steps) h.counted;
        fixed = refl;
        time = h.time;
        state = h.state;
        untouched = record { tail = tail_after c y; of_work = work_after c y; of_pivots = pivots_after c y };
      }

pub every_refusal : EveryRefusal
unfolding stepped result closes
every_refusal c y k e =
    let l = called_law y c in
    record {
      unchanged = λ h. ap (λ (o : Out). (next_by y.stepper y.lent o).system) (l.unchanged k e h) ∙ refusal_leaves y k;
      closed = λ h. closed_by y c (l.closed k e h);
    }
