-- After a call that shows, asks or is done, record and memory fit and stand where the answer was read from; so the readers tell it. Assumes nothing.
use Rattle.std.proofs.lemmas.Grind.{common_steps}
use Prim.Native.Nat.{ℕ, ◌+◌, ◌*◌, ◌<◌, ◌≤◌}
use native.Mathlib.Omega.{arith}
use native.Mathlib.Nat.{mul-le-mul_right}
use mathlib.Core.Path.{◌≡◌, refl, sym, ap, ◌∙◌, subst}
use mathlib.Core.Bool.{Bool, true, false, not}
use mathlib.Core.List.{List, [], ◌∷◌, ◌++◌}
use lib.Dec.{eqb, ltb}
use lib.ListN.{length}
use lib.Seq.{ext_get_or}
use lib.Ieee.{Float, nan, eq}
use borrow.Author.Tests.{le-leb, lt-leb, ltb-true, ltb-false, not-false}
use Rattle.std.specs.Prelude.{◌≢◌, Result, Ok, Err, ⊤}
use Rattle.float.specs.Operators.{𝟎}
use Rattle.float.proofs.Cases.{by, yes, no, or_left, or_right, neither, never}
use Rattle.vector.specs.Parts.{part}
use Rattle.vector.proofs.Parts.{length_part, part_at}
use Rattle.vector.proofs.Matrices.{row_inside}
use Rattle.stepping.specs.declared.Refusal.{Refusal}
use Rattle.stepping.specs.declared.Refusal.TheVariants.{Dimension, NoCandidate, NoRequest, AttemptOpen}
use Rattle.stepping.specs.Refusals.{Test, ◌when◌, first_of}
use Rattle.stepping.proofs.Refusals.{here, later, holds_later, none, all_passed, is_refused}
use Rattle.stages.specs.Layout.{needed_work, stages_at, rhs_stages_at}
use Rattle.attempts.specs.declared.Ask.{Ask}
use Rattle.attempts.specs.Marks.{Marks}
use Rattle.attempts.specs.Attempt.{Ending, Asks, Ends, Shows, Stopped, stopped}
use Rattle.refusals.specs.declared.Fixed.{Fixed}
use Rattle.refusals.specs.declared.Progress.{Progress}
use Rattle.refusals.specs.Requests.{is_pending, is_open, ask_of, request_after, stage_after}
use Rattle.refusals.specs.Answers.{Lent, Request, View, Answer, refused, asked, shown, told, done, vector, request_of, view_of, answer_of, shown_part, stages_shown, rhs_stages_shown}
use Rattle.refusals.specs.Tests.{fit_tests, open_test, candidate_test}
use Rattle.refusals.proofs.Requests.{asked_open, read_back}
use Rattle.refusals.proofs.Fitting.{Fits, fits_passed, fits_tests}
use Rattle.refusals.proofs.Passed.{inject_passed}
use Rattle.phases.specs.Phases.{opening, fresh}
use Rattle.rosenbrock.specs.Calls.{Out, refusal, guarded, progress_after, settle, opened, attempt_by, attempt_of, towards, attempt_to_of, supply_of, failed, fail_of, accepted, accept_of, rejected, reject_of, injected, inject_of, restarted, reset_of}
use Rattle.rosenbrock.specs.Readers.{Query, the_request, the_time, the_state, the_derivative, the_statistics, the_copy, the_start, the_end, the_candidate, the_error, the_stages, the_rhs_stages, the_jacobian, the_time_partial, the_stage, the_rhs_stage, no_stage, query_tests, reply, answered, read_of}
use Rattle.rosenbrock.specs.Stepper.{Call, attempt, attempt_to, supply, fail, accept, reject, inject_derivative, reset, read, called, System, needed, trimmed, result, stepped}
use Rattle.rosenbrock.proofs.Guards.{guarded_either, guarded_passed}
use Rattle.rosenbrock.proofs.Memory.{memory_after}
use Rattle.lists.specs.Telling.{copied, row, Readings, readings, TellView, TellRequest, TellNothing, ReadersTellTheAnswer}
use Rattle.lists.proofs.Steady.{called_fits}

-- ---- where the outcome of a call stands

-- the step of the view v is pending
record Pends (fx : Fixed) (v : View) (x : Progress) (m : Lent) : Type 0 where
  pending : x.request ≡ 1
  view : view_of fx x m ≡ v

-- the request r is asked
record Waits (fx : Fixed) (r : Request) (x : Progress) (m : Lent) : Type 0 where
  open_now : is_open x.request ≡ true
  request : request_of fx x m (ask_of x.request x.stage) ≡ r

-- nothing is asked, and no step is pending
record Rests (x : Progress) : Type 0 where
  not_open : is_open x.request ≡ false
  not_pending : is_pending x.request ≡ false

-- a call on what fits, and where its outcome stands
unfoldable Stands : Fixed → Progress → Lent → Answer → Out → Type 0
Stands fx x m (refused k) o = ⊤
Stands fx x m (asked r) o = Fits fx x m × Waits fx r o.progress o.lent
Stands fx x m (shown v) o = Fits fx x m × Pends fx v o.progress o.lent
Stands fx x m (told a) o = ⊤
Stands fx x m done o = Fits fx x m × Rests o.progress

module _ (fx : Fixed) where
  module _ (x : Progress) (m : Lent) where
    guarded_stands : (rest : List Test) (o : Out) → (Fits fx x m → first_of (fit_tests fx x m ++ rest) ≡ Ok tt → Stands fx x m o.answer o)
        → let r = guarded (fit_tests fx x m ++ rest) x m o in Stands fx x m r.answer r
    unfolding Stands refusal
    guarded_stands rest o g =
        guarded_either _ x m o (λ (q : Out). Stands fx x m q.answer q) (λ k. tt) (λ z. g (fits_passed fx x m rest z).0 z)

    ended_stands : Fits fx x m → (x' : Progress) (marks : Marks) (e : Ending) (work : List Float) (pivots : List ℕ)
        → let o = settle fx x' m (stopped (record { marks = marks; ending = e }) work pivots) in Stands fx x m o.answer o
    unfolding Stands settle progress_after request_after stage_after answer_of
    ended_stands h x' marks (Asks a) work pivots =
        let o = settle fx x' m (stopped (record { marks = marks; ending = Asks a }) work pivots) in
        (h, record { open_now = asked_open a; request = ap (λ (k : Ask). request_of fx o.progress o.lent k) (read_back a) })
    ended_stands h x' marks (Ends k) work pivots = tt
    ended_stands h x' marks Shows work pivots = (h, record { pending = refl; view = refl })

    settle_stands : Fits fx x m → (x' : Progress) (r : Stopped) → let o = settle fx x' m r in Stands fx x m o.answer o
    settle_stands h x' r = ended_stands h x' r.stop.marks r.stop.ending r.work r.pivots

    attempt_by_stands : (file : List ℕ) (step : Float) (jacobian partial : Bool) → Fits fx x m
        → let o = attempt_by fx file step jacobian partial x m in Stands fx x m o.answer o
    unfolding attempt_by opened Stands refusal
    attempt_by_stands file step jacobian partial h =
        guarded_either _ x m _ (λ (q : Out). Stands fx x m q.answer q) (λ k. tt) (λ _. settle_stands h (opening step jacobian partial x) _)

    towards_stands : (e : Result Float Refusal) (file : List ℕ) (jacobian partial : Bool) → Fits fx x m
        → let o = towards e fx file jacobian partial x m in Stands fx x m o.answer o
    unfolding towards Stands refusal
    towards_stands (Ok step) file jacobian partial h = attempt_by_stands file step jacobian partial h
    towards_stands (Err k) file jacobian partial h = tt

  called_stands : (c : Call) (x : Progress) (m : Lent) → let o = called fx c x m in Stands fx x m o.answer o
  unfolding called attempt_of attempt_to_of supply_of fail_of failed accept_of accepted reject_of rejected inject_of injected reset_of restarted read_of answered progress_after fresh is_open is_pending Stands
  called_stands (attempt file step jacobian partial) x m = guarded_stands x m _ _ (λ h _. attempt_by_stands x m file step jacobian partial h)
  called_stands (attempt_to file endpoint proposal jacobian partial) x m = guarded_stands x m _ _ (λ h _. towards_stands x m _ file jacobian partial h)
  called_stands (supply file values) x m = guarded_stands x m _ _ (λ h _. settle_stands x m h x _)
  called_stands fail x m = guarded_stands x m _ _ (λ _ _. tt)
  called_stands (accept f) x m = guarded_stands x m _ _ (λ h _. (h, record { not_open = refl; not_pending = refl }))
  called_stands (reject f) x m = guarded_stands x m _ _ (λ h _. (h, record { not_open = refl; not_pending = refl }))
  called_stands (inject_derivative derivative) x m =
      guarded_stands x m _ _ (λ h z. let t = inject_passed fx x m derivative z in (h, record { not_open = t.0; not_pending = t.1 }))
  called_stands (reset time state) x m = guarded_stands x m _ _ (λ h _. (h, record { not_open = refl; not_pending = refl }))
  called_stands (read q) x m = guarded_stands x m _ _ (λ _ _. tt)

-- ---- the readers there

-- a part of a part
inner_part : (at k a n : ℕ) (w : List Float) → a + n ≤ k → at + k ≤ length w → part a n (part at k w) ≡ part (at + a) n w
inner_part at k a n w h l =
    ext_get_or nan _ _ (grind (arith, common_steps, length_part)) (λ i q. grind (arith, common_steps, length_part, part_at))

-- a row, or none
row_some : (n : ℕ) (rows : List Float) (i : ℕ) → i * n + n ≤ length rows → row n rows i ≡ told (vector (part (i * n) n rows))
unfolding row
row_some n rows i h = sym (yes _ (le-leb _ _ h) refl)

row_none : (n : ℕ) (rows : List Float) (i : ℕ) → length rows < i * n + n → row n rows i ≡ refused Dimension
unfolding row
row_none n rows i h = sym (no _ (lt-leb _ _ h) refl)

-- where the rows stand in the needed work
stages_inside : (n s work : ℕ) → work ≡ needed_work n s → stages_at n + s * n ≤ work
unfolding needed_work
stages_inside n s work e = omega arith

rhs_stages_inside : (n s work : ℕ) → work ≡ needed_work n s → rhs_stages_at n s + s * n ≤ work
unfolding needed_work
rhs_stages_inside n s work e = omega arith

module _ (fx : Fixed) (x : Progress) (m : Lent) (h : Fits fx x m) where
  tells : (q : Query) → first_of (query_tests q fx x) ≡ Ok tt → (read_of q fx x m).answer ≡ told (reply q fx x m)
  unfolding read_of answered
  tells q e = ap (λ (o : Out). o.answer) (guarded_passed _ x m _ (all_passed _ _ (fits_tests fx x m h) ∙ e))

  refuses : (q : Query) {k : Refusal} → first_of (query_tests q fx x) ≡ Err k → (read_of q fx x m).answer ≡ refused k
  unfolding read_of answered guarded refusal
  refuses q e = ap (λ (o : Out). o.answer) (sym (is_refused (refusal x m) _ (all_passed _ _ (fits_tests fx x m h) ∙ e)))

  -- the rows that are shown, none at the step 0
  abbrev rows : ℕ → List Float
  rows at = shown_part at (fx.s * fx.n) x m

  module _ (at : ℕ) (inside : at + fx.s * fx.n ≤ length m.work) (i : ℕ) where
    at_zero : eq x.step 𝟎 ≡ true → rows at ≡ []
    unfolding shown_part
    at_zero z = sym (yes _ z refl)

    not_at_zero : eq x.step 𝟎 ≡ false → rows at ≡ part at (fx.s * fx.n) m.work
    unfolding shown_part
    not_at_zero z = sym (no _ z refl)

    no_row : no_stage fx x i ≡ true → row fx.n (rows at) i ≡ refused Dimension
    unfolding no_stage
    no_row t =
        by (eq x.step 𝟎)
        (λ z. rw (at_zero z) (row_none fx.n [] i (let n = h.shape.n_from_1 in omega arith)))
        (λ z. by (ltb i fx.s)
        (λ l. never t (neither (ap not l) z))
        (λ l. rw (not_at_zero z) (row_none fx.n _ i
        (omega (arith, length_part at (fx.s * fx.n) m.work inside, mul-le-mul_right fx.n (ltb-false i fx.s l), h.shape.n_from_1)))))

    one_row : no_stage fx x i ≡ false → row fx.n (rows at) i ≡ told (vector (part (at + i * fx.n) fx.n m.work))
    unfolding no_stage
    one_row t =
        let z = or_right (not (ltb i fx.s)) (eq x.step 𝟎) t in
        let j = row_inside fx.n fx.s i (ltb-true i fx.s (not-false (ltb i fx.s) (or_left (not (ltb i fx.s)) (eq x.step 𝟎) t))) in
        rw (not_at_zero z)
        (row_some fx.n (part at (fx.s * fx.n) m.work) i (omega (arith, length_part at (fx.s * fx.n) m.work inside))
        ∙ ap (λ (p : List Float). told (vector p)) (inner_part at (fx.s * fx.n) (i * fx.n) fx.n m.work j inside))

  module _ (p : x.request ≡ 1) where
    not_open : is_open x.request ≡ false
    unfolding is_open
    not_open = ap is_open p

    pending : is_pending x.request ≡ true
    unfolding is_pending
    pending = ap is_pending p

    -- the tests of a step's readers go on
    goes_on : (rest : List Test) → first_of (open_test x ∷ candidate_test x ∷ rest) ≡ first_of rest
    goes_on rest = later AttemptOpen _ not_open (holds_later NoCandidate rest pending refl)

    row_read : (q : Query) (at i : ℕ) → at + fx.s * fx.n ≤ length m.work
        → query_tests q fx x ≡ (open_test x ∷ candidate_test x ∷ (Dimension when no_stage fx x i) ∷ [])
        → reply q fx x m ≡ vector (part (at + i * fx.n) fx.n m.work)
        → (read_of q fx x m).answer ≡ row fx.n (rows at) i
    row_read q at i l e r =
        by (no_stage fx x i)
        (λ t. refuses q (ap first_of e ∙ goes_on _ ∙ here Dimension [] t) ∙ sym (no_row at l i t))
        (λ t. tells q (ap first_of e ∙ goes_on _ ∙ later Dimension [] t none) ∙ ap told r ∙ sym (one_row at l i t))

    copy_read : (k : ℕ) → (read_of (the_copy k) fx x m).answer ≡ copied k m.state
    unfolding copied query_tests reply
    copy_read k =
        let long : eqb k (length m.state) ≡ eqb k fx.n = ap (λ (n : ℕ). eqb k n) h.shape.of_state in
        by (eqb k fx.n)
        (λ t. tells (the_copy k) (later AttemptOpen _ not_open (holds_later Dimension [] t none)) ∙ yes _ (long ∙ t) refl)
        (λ t. refuses (the_copy k) (later AttemptOpen _ not_open (here Dimension [] (ap not t))) ∙ no _ (long ∙ t) refl)

    view_told : TellView (view_of fx x m) (λ q. (read_of q fx x m).answer)
    unfolding view_of stages_shown rhs_stages_shown query_tests reply
    view_told =
        let idle : first_of (open_test x ∷ []) ≡ Ok tt = later AttemptOpen [] not_open none in
        let step : first_of (open_test x ∷ candidate_test x ∷ []) ≡ Ok tt = goes_on [] ∙ none in
        record {
          of_time = tells the_time idle;
          of_state = tells the_state idle;
          of_copy = copy_read;
          of_start = tells the_start step;
          of_end = tells the_end step;
          of_candidate = tells the_candidate step;
          of_error = tells the_error step;
          of_stages = tells the_stages step;
          of_stage =
              λ i. row_read (the_stage i) (stages_at fx.n) i (stages_inside _ _ _ h.shape.of_work) refl refl
              ∙ ap (λ (n : ℕ). row n (stages_shown fx x m) i) (sym h.shape.of_state);
          of_rhs_stages = tells the_rhs_stages step;
          of_rhs_stage =
              λ i. row_read (the_rhs_stage i) (rhs_stages_at fx.n fx.s) i (rhs_stages_inside _ _ _ h.shape.of_work) refl refl
              ∙ ap (λ (n : ℕ). row n (rhs_stages_shown fx x m) i) (sym h.shape.of_state);
          of_jacobian = tells the_jacobian step;
          of_time_partial = tells the_time_partial step;
          of_request = refuses the_request (here NoRequest [] (ap not not_open));
        }

  module _ (r : Rests x) where
    -- the tests of a step's readers refuse
    no_step : (rest : List Test) → first_of (open_test x ∷ candidate_test x ∷ rest) ≡ Err NoCandidate
    no_step rest = later AttemptOpen _ r.not_open (here NoCandidate rest (ap not r.not_pending))

    nothing_told : TellNothing (λ q. (read_of q fx x m).answer)
    unfolding query_tests
    nothing_told =
        record {
          of_request = refuses the_request (here NoRequest [] (ap not r.not_open));
          of_start = refuses the_start (no_step []);
          of_end = refuses the_end (no_step []);
          of_candidate = refuses the_candidate (no_step []);
          of_error = refuses the_error (no_step []);
          of_stages = refuses the_stages (no_step []);
          of_stage = λ i. refuses (the_stage i) (no_step _);
          of_rhs_stages = refuses the_rhs_stages (no_step []);
          of_rhs_stage = λ i. refuses (the_rhs_stage i) (no_step _);
          of_jacobian = refuses the_jacobian (no_step []);
          of_time_partial = refuses the_time_partial (no_step []);
        }

  module _ (o : is_open x.request ≡ true) where
    none_other : (k : Query) → k ≢ the_request → (read_of k fx x m).answer ≡ refused AttemptOpen
    unfolding query_tests
    none_other the_request n = absurd (n refl)
    none_other the_time n = refuses the_time (here AttemptOpen _ o)
    none_other the_state n = refuses the_state (here AttemptOpen _ o)
    none_other the_derivative n = refuses the_derivative (here AttemptOpen _ o)
    none_other the_statistics n = refuses the_statistics (here AttemptOpen _ o)
    none_other (the_copy k) n = refuses (the_copy k) (here AttemptOpen _ o)
    none_other the_start n = refuses the_start (here AttemptOpen _ o)
    none_other the_end n = refuses the_end (here AttemptOpen _ o)
    none_other the_candidate n = refuses the_candidate (here AttemptOpen _ o)
    none_other the_error n = refuses the_error (here AttemptOpen _ o)
    none_other the_stages n = refuses the_stages (here AttemptOpen _ o)
    none_other the_rhs_stages n = refuses the_rhs_stages (here AttemptOpen _ o)
    none_other the_jacobian n = refuses the_jacobian (here AttemptOpen _ o)
    none_other the_time_partial n = refuses the_time_partial (here AttemptOpen _ o)
    none_other (the_stage i) n = refuses (the_stage i) (here AttemptOpen _ o)
    none_other (the_rhs_stage i) n = refuses (the_rhs_stage i) (here AttemptOpen _ o)

    request_told : TellRequest (request_of fx x m (ask_of x.request x.stage)) (λ q. (read_of q fx x m).answer)
    unfolding query_tests reply
    request_told = record { of_request = tells the_request (holds_later NoRequest [] o none); of_others = none_other }

-- ---- after a call

module _ (c : Call) (y : System) where
  abbrev fx : Fixed
  fx = y.stepper.fixed

  abbrev x : Progress
  x = (result c y).progress

  abbrev m : Lent
  m = (result c y).lent

  abbrev Entered : Type 0
  Entered = Fits fx y.stepper.progress (trimmed (needed fx) y.lent)

  there : readings (stepped c y).system ≡ (λ q. (read_of q fx x m).answer)
  unfolding stepped result called
  there = ap {B = Readings} (λ l q. (read_of q fx (result c y).progress l).answer) (memory_after c y)

  stands : (a : Answer) → (stepped c y).answer ≡ a → Stands fx y.stepper.progress (trimmed (needed fx) y.lent) a (result c y)
  unfolding stepped result
  stands a e = subst (λ (k : Answer). Stands fx y.stepper.progress (trimmed (needed fx) y.lent) k (result c y)) e (called_stands fx c _ _)

  fits_then : Entered → Fits fx x m
  unfolding result
  fits_then h = called_fits fx c _ _ h

  tell_view : (v : View) → (stepped c y).answer ≡ shown v → TellView v (readings (stepped c y).system)
  unfolding Stands
  tell_view v e =
      let s : Entered × Pends fx v x m = stands (shown v) e in
      rw (there, sym s.1.view) (view_told fx x m (fits_then s.0) s.1.pending)

  tell_request : (q : Request) → (stepped c y).answer ≡ asked q → TellRequest q (readings (stepped c y).system)
  unfolding Stands
  tell_request q e =
      let s : Entered × Waits fx q x m = stands (asked q) e in
      rw (there, sym s.1.request) (request_told fx x m (fits_then s.0) s.1.open_now)

  tell_nothing : (stepped c y).answer ≡ done → TellNothing (readings (stepped c y).system)
  unfolding Stands
  tell_nothing e =
      let s : Entered × Rests x = stands done e in
      rw there (nothing_told fx x m (fits_then s.0) s.1)

pub readers_tell : ReadersTellTheAnswer
readers_tell c y = record { the_view = tell_view c y; the_request_asked = tell_request c y; nothing = tell_nothing c y }
