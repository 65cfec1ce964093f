-- The stages of an open attempt conform to those of its step. Assumes nothing.
use Prim.Native.Nat.{ℕ, zero, suc, ◌+◌, ◌-◌, ◌<◌}
use native.Mathlib.Omega.{arith}
use mathlib.Core.Path.{◌≡◌, refl, sym, ap, ◌∙◌, subst}
use mathlib.Core.Bool.{Bool, false, not, cond, ◌&&◌}
use mathlib.Core.List.{List, [], ◌∷◌, ◌++◌, append_assoc}
use mathlib.Core.Option.{none, some}
use lib.Dec.{eqb, ltb}
use lib.ListN.{length, get_or}
use lib.Ieee.{Float, nan, eq}
use lib.Ieee.Scale.{finite}
use borrow.Author.Tests.{eq-eqb, ne_eqb, eqb-true}
use Rattle.float.specs.Operators.{𝟎}
use Rattle.vector.specs.Lists.{el, table, every, all_finite}
use Rattle.vector.specs.Matrices.{entry}
use Rattle.vector.specs.Parts.{part}
use Rattle.vector.proofs.Lists.{length-table, table_own}
use Rattle.vector.proofs.Parts.{part-table}
use Rattle.float.proofs.Cases.{yes, no, and_no}
use Rattle.linear.specs.Elimination.{pivot_of}
use Rattle.linear.proofs.Outcomes.{pivots_below}
use Rattle.stepping.specs.declared.Refusal.TheVariants.{Dimension, NonFinite, UnsupportedTableau, TableauFile}
use Rattle.stepping.proofs.Refusals.{passed, held}
use Rattle.stepping.specs.Refusals.{◌when◌}
use Rattle.tableau.specs.Tableau.{stages_of, present}
use Rattle.stages.specs.Layout.{candidate_at, error_at, stage_state_at, current_at, rhs_stage_at, needed_work}
use Rattle.stages.specs.Method.{stage_time, new_state, error_of}
use Rattle.stages.specs.Memory.{component, with_stage_state}
use Rattle.attempts.specs.declared.Ask.TheVariants.{Stage}
use Rattle.attempts.specs.Marks.{noting, with_error_shown, counting}
use Rattle.attempts.specs.Attempt.{Scratch, on_work, on_marks, halt, show, finish, ask_stage, open_stage, next_stage, solve_stage, first_stage, written, resume, wanted}
use Rattle.refusals.specs.Requests.{request_after, stage_after}
use Rattle.refusals.specs.Answers.{state_asked, candidate_of, error_shown, shown_part, stages_shown, rhs_stages_shown, jacobian_shown, time_partial_shown, view_of, answer_of}
use Rattle.refusals.specs.Tests.{pivots_unfit}
use Rattle.rosenbrock.specs.Calls.{given_by, progress_after, settle}
use Rattle.method.specs.Step.{Attempted, matrix, state_of, reused, derivative_of, stage_of, stages, derivatives, candidate, error}
use Rattle.method.specs.Schedule.{Item, evaluate, test, finite_test, stage_derivative_items, stage_items, stages_items, end_items}
use Rattle.method.specs.Conversation.{shown_error, step_view}
use Rattle.method.proofs.Conforms.{Open, step_in, given_in, Answerable, Talks, Conforms, goes_on, chooses, chosen, not_chosen, asks_rhs}
use Rattle.method.proofs.Holds.{Sums}
use Rattle.method.proofs.Solving.{Solving, state_there, state_leaves, derivative_there, derivative_leaves, stage_there, stage_leaves, added_leaves}

module _ (o : Open) where
  abbrev p : Attempted
  p = step_in o

  abbrev Fits : ℕ → ℕ → ℕ → Scratch → Type 0
  Fits c i j sc = Solving p o.e o.fx.s c i j sc.work sc.pivots

  -- the file has as many stages as the record says
  all_stages : o.fx.s ≡ stages_of p.tableau
  all_stages =
      let t₁ = held TableauFile _ _ o.ready.file_passed in
      let t₂ = passed UnsupportedTableau _ _ t₁.1 in
      sym (eqb-true (stages_of p.tableau) o.fx.s (held Dimension _ [] t₂.1).0)

  -- ---- the end: the step is shown
  moved : (l y : List Float) → l ≡ y → cond (eq o.x.step 𝟎) [] l ≡ y
  moved l y q = ap (λ (b : Bool). cond b [] l) o.moves ∙ q

  candidate_whole : (w : List Float) → Sums p o.e o.fx.s o.fx.s w → part (candidate_at o.fx.n) o.fx.n w ≡ candidate p o.e
  unfolding candidate
  candidate_whole w h = h.candidate_there ∙ ap (λ (i : ℕ). table (new_state p.tableau (entry o.fx.n (stages p o.e i)) (el o.m.state) i) o.fx.n) all_stages

  error_whole : (w : List Float) → Sums p o.e o.fx.s o.fx.s w → part (error_at o.fx.n) o.fx.n w ≡ error p o.e
  unfolding error
  error_whole w h = h.error_there ∙ ap (λ (i : ℕ). table (error_of p.tableau (entry o.fx.n (stages p o.e i)) i) o.fx.n) all_stages

  shows : (sc : Scratch) → Fits o.fx.s o.fx.s o.fx.s sc → Conforms o [] (show (given_in o) sc)
  unfolding Talks show halt on_marks noting with_error_shown settle progress_after request_after stage_after answer_of
      view_of candidate_of error_shown shown_part stages_shown rhs_stages_shown jacobian_shown time_partial_shown step_view shown_error given_by
  shows sc h =
      let counts = p.tableau.counts in
      let v = candidate_whole sc.work h.sums in
      let r = ap (λ (l : List Float). cond (eqb counts.estimator 0 && present counts) (some l) none) (error_whole sc.work h.sums) in
      let u = moved _ _ (h.rows.stages_there ∙ ap (stages p o.e) all_stages) in
      let d = moved _ _ (h.rows.derivatives_there ∙ ap (derivatives p o.e) all_stages) in
      let J = moved _ _ h.inputs.jacobian_there in
      let fₜ = moved _ _ h.inputs.partial_there in
      record { talks = cc (v, r, u, d, J, fₜ) }

  finishes : (sc : Scratch) → Fits o.fx.s o.fx.s o.fx.s sc → Conforms o (end_items p o.e) (finish (given_in o) sc)
  unfolding end_items finish given_by
  finishes sc h =
      goes_on _ (ap all_finite (candidate_whole sc.work h.sums))
      (λ _. goes_on _ (ap all_finite (error_whole sc.work h.sums)) (λ _. shows sc h))

  -- ---- stage i, before which are `items` left
  module _ (i : ℕ) (below : i < o.fx.s) (items : List Item)
      (then : (sc : Scratch) → Fits (suc i) (suc i) (suc i) sc → Conforms o items (next_stage (given_in o) (suc i) sc)) where
    abbrev u : List Float
    u = stages p o.e i

    solves : (sc : Scratch) → part (rhs_stage_at o.fx.n o.fx.s i) o.fx.n sc.work ≡ derivative_of p o.e i u → Fits i i (suc i) sc
        → Conforms o (finite_test (stage_of p o.e i u) ∷ items) (solve_stage (given_in o) i sc)
    unfolding solve_stage on_marks on_work counting given_by
    solves sc at_stage h =
        let s = o.fx.s in
        let w = sc.work in
        let there = stage_there p o.e s i below w sc.pivots at_stage h in
        goes_on _ (ap all_finite there)
        (λ _. then _ (added_leaves p o.e s i below _ sc.pivots there (stage_leaves p o.e s i below w sc.pivots at_stage h)))

    stage_fits : (sc : Scratch) → Fits i i i sc → Answerable o.fx sc (Stage i)
    unfolding needed_work pivots_unfit
    stage_fits sc h =
        let q = h.factors.pivots_there in
        record {
          work = h.sums.long;
          pivots = ap length q ∙ length-table (pivot_of o.fx.n (matrix p o.e)) o.fx.n;
          range = below;
          rows = ap (λ (l : List ℕ). not (every o.fx.n (λ k. ltb (get_or l k 0) o.fx.n))) q ∙ ap not (pivots_below o.fx.n (matrix p o.e));
        }

    -- its derivative is asked for
    asks_stage : (sc : Scratch) → reused p o.e i ≡ false → part (stage_state_at o.fx.n) o.fx.n sc.work ≡ state_of p o.e i u → Fits i i i sc
        → let t = stage_time p.tableau o.x.time o.x.step i in
        Conforms o (test (NonFinite when not (finite t)) ∷ evaluate (Stage i) t (state_of p o.e i u) ∷ finite_test (derivative_of p o.e i u) ∷ finite_test (stage_of p o.e i u) ∷ items)
        (ask_stage (given_in o) i sc)
    unfolding ask_stage resume written on_work given_by state_asked wanted derivative_of
    asks_stage sc fresh there h =
        let t = stage_time p.tableau o.x.time o.x.step i in
        let v = o.answer (Stage i) t (state_of p o.e i u) in
        let is : v ≡ derivative_of p o.e i u = no o.e.f₀ fresh refl in
        let long : table (el v) o.fx.n ≡ derivative_of p o.e i u = table_own nan v o.fx.n (o.ready.long (Stage i) t (state_of p o.e i u)) ∙ is in
        goes_on _ refl
        (λ _. asks_rhs there (stage_fits sc h)
        (goes_on _ (ap all_finite is)
        (λ _.
        solves _ (derivative_there p o.e o.fx.s i below sc.work sc.pivots (el v) long h)
        (derivative_leaves p o.e o.fx.s i below sc.work sc.pivots (el v) long h))))

    -- the items of a stage, then the others
    stage_items_lem : stage_items p o.e i ++ items ≡ finite_test (state_of p o.e i u) ∷ (stage_derivative_items p o.e i u ++ (finite_test (stage_of p o.e i u) ∷ items))
    unfolding stage_items
    stage_items_lem =
        ap (λ (l : List Item). finite_test (state_of p o.e i u) ∷ l) (append_assoc (stage_derivative_items p o.e i u) (finite_test (stage_of p o.e i u) ∷ []) items)

    opens : (sc : Scratch) → reused p o.e i ≡ false → Fits i i i sc → Conforms o (stage_items p o.e i ++ items) (open_stage (given_in o) i sc)
    unfolding open_stage on_work given_by stage_derivative_items
    opens sc fresh h =
        let there = state_there p o.e o.fx.s i below sc.work sc.pivots h in
        rw (stage_items_lem, fresh)
        (goes_on _ (ap all_finite there) (λ _. asks_stage _ fresh there (state_leaves p o.e o.fx.s i below sc.work sc.pivots h)))

  -- ---- stage i, not the first, and the r stages after it
  goes_through : (r i : ℕ) → i + r ≡ o.fx.s → 0 < i → (sc : Scratch) → Fits i i i sc → Conforms o (stages_items p o.e i r ++ end_items p o.e) (next_stage (given_in o) i sc)
  unfolding next_stage stages_items given_by reused
  goes_through zero i q pos sc h =
      let z : i ≡ o.fx.s = omega arith in
      chosen _ (eq-eqb i o.fx.s z) (finishes sc (subst (λ (k : ℕ). Fits k k k sc) z h))
  goes_through (suc r) i q pos sc h =
      not_chosen _ (ne_eqb i o.fx.s (λ z. omega arith))
      (rw append_assoc
      (opens i (omega arith) (stages_items p o.e (suc i) r ++ end_items p o.e) (goes_through r (suc i) (omega arith) (omega arith)) sc
      (and_no _ (ne_eqb i 0 (λ z. omega arith))) h))

  -- ---- the first stage, and the r stages after it
  starts : (r : ℕ) → suc r ≡ o.fx.s → (sc : Scratch) → Fits 0 0 0 sc → Conforms o (stages_items p o.e 0 (suc r) ++ end_items p o.e) (first_stage (given_in o) sc)
  unfolding first_stage stages_items on_work given_by stage_derivative_items reused derivative_of
  starts r q sc h =
      let n = o.fx.n in
      let s = o.fx.s in
      let below : 0 < s = omega arith in
      let items = stages_items p o.e 1 r ++ end_items p o.e in
      let then = goes_through r 1 (omega arith) (omega arith) in
      let w = with_stage_state n p.tableau o.m.state 0 sc.work in
      let there = state_there p o.e s 0 below sc.work sc.pivots h in
      let k = state_leaves p o.e s 0 below sc.work sc.pivots h in
      rw (append_assoc, stage_items_lem 0 below items then)
      (goes_on _ (ap all_finite there)
      (λ _.
      chooses _ _ _
      (λ zero-c.
      let long = k.sums.long in
      let is : table (component w (current_at n)) n ≡ derivative_of p o.e 0 (stages p o.e 0) =
      sym (part-table nan (current_at n) n w (omega arith)) ∙ k.inputs.derivative_there ∙ yes _ zero-c refl in
      solves 0 below items then _ (derivative_there p o.e s 0 below w sc.pivots (component w (current_at n)) is k)
      (derivative_leaves p o.e s 0 below w sc.pivots (component w (current_at n)) is k))
      (λ other-c. asks_stage 0 below items then _ other-c there k)))

  pub first_stage_lem : (sc : Scratch) → Fits 0 0 0 sc → Conforms o (stages_items p o.e 0 (stages_of p.tableau) ++ end_items p o.e) (first_stage (given_in o) sc)
  first_stage_lem sc h =
      let r = o.fx.s - 1 in
      let q : suc r ≡ o.fx.s = omega (arith, o.ready.shape.s_from_1) in
      subst (λ (k : ℕ). Conforms o (stages_items p o.e 0 k ++ end_items p o.e) (first_stage (given_in o) sc)) (q ∙ all_stages) (starts r q sc h)
