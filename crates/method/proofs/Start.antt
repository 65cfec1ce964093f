-- An attempt from its start, with what is cached, conforms to its step. Assumes nothing.
use Prim.Native.Nat.{ℕ, ◌+◌, ◌*◌, ◌≤◌}
use native.Mathlib.Omega.{arith}
use mathlib.Core.Path.{◌≡◌, refl, sym, ap, ◌∙◌}
use mathlib.Core.Bool.{Bool, true, false}
use mathlib.Core.List.{List, ◌++◌, append_assoc}
use mathlib.Core.Logic.{inl, inr}
use lib.ListN.{length}
use lib.Ieee.{Float, nan}
use Rattle.float.specs.Operators.{𝟎}
use Rattle.vector.specs.Lists.{el, table, all_finite}
use Rattle.vector.specs.Parts.{part, puts}
use Rattle.vector.proofs.Lists.{table_own}
use Rattle.vector.proofs.Parts.{part-puts, part_left, part_stored}
use Rattle.vector.proofs.Stores.{length-puts}
use Rattle.stages.specs.Layout.{candidate_at, error_at, current_at, time_partial_at, jacobian_at, needed_work}
use Rattle.stages.specs.Method.{new_state, error_of, plus_products}
use Rattle.attempts.specs.Marks.{noting, counting, with_caches, with_derivative, with_request_time}
use Rattle.attempts.specs.declared.Ask.TheVariants.{Derivative}
use Rattle.attempts.specs.Attempt.{Scratch, on_work, on_marks, differentiate, begun, evaluate, written, resume, wanted}
use Rattle.refusals.specs.declared.Fixed.{Fixed}
use Rattle.refusals.specs.declared.Progress.{Progress}
use Rattle.refusals.specs.Answers.{Lent, state_asked}
use Rattle.refusals.specs.Tests.{pivots_unfit}
use Rattle.rosenbrock.specs.Calls.{given_by}
use Rattle.std.specs.Bool.{then_some}
use Rattle.method.specs.Step as step
use Rattle.method.specs.Step.{Answers, Attempted, Evaluated, Differentiation, stages, derivatives, partial_at}
use Rattle.method.specs.Schedule.{unless_cached, derivative_items, jacobian_items, partial_items}
use Rattle.method.proofs.Conforms.{step_of, Open, step_in, given_in, Conforms, goes_on, chosen, not_chosen, asks_rhs}
use Rattle.method.proofs.Holds.{stored, Sums, sums_kept}
use Rattle.method.proofs.Partial.{matrix_on}
use Rattle.method.proofs.Matrix.{factors}
use Rattle.method.proofs.Jacobian.{asks_jacobian}

module _ (o : Open) where
  abbrev p : Attempted
  p = step_in o

  -- the Jacobian and the time partial: b says whether they are cached
  pub record Differentiated (b : Bool) (w : List Float) : Type 0 where
    pub if_cached : b ≡ true → (part (jacobian_at o.fx.n) (o.fx.n * o.fx.n) w ≡ o.e.J) × (part (time_partial_at o.fx.n) o.fx.n w ≡ o.e.fₜ)
    pub if_not : b ≡ false → (step.jacobian_at p o.e.f₀ ≡ o.e.J) × (partial_at p o.e.f₀ ≡ o.e.fₜ)

  differentiates : (b : Bool) (d : Differentiation) (sc : Scratch) → sc.marks.memo.differentiation_valid ≡ b → Sums p o.e o.fx.s 0 sc.work
      → part (current_at o.fx.n) o.fx.n sc.work ≡ o.e.f₀ → Differentiated b sc.work → length sc.pivots ≡ o.fx.n
      → Conforms o (unless_cached (then_some b d) (jacobian_items p o.e ++ partial_items p o.e) ++ matrix_on p o.e) (differentiate (given_in o) sc)
  unfolding differentiate unless_cached on_marks counting
  differentiates true d sc flag sums current h rows =
      chosen _ flag
      (factors o sc sums
      (record { derivative_there = current; jacobian_there = (h.if_cached refl).0; partial_there = (h.if_cached refl).1 }) rows)
  differentiates false d sc flag sums current h rows =
      not_chosen _ flag
      (rw append_assoc (asks_jacobian o (h.if_not refl).1 _ sums current (h.if_not refl).0 rows))

  -- the derivative: b says whether it is cached, and c whether the others are
  pub evaluates : (b c : Bool) (v : List Float) (d : Differentiation) (sc : Scratch) → sc.marks.memo.derivative_valid ≡ b → sc.marks.memo.differentiation_valid ≡ c
      → Sums p o.e o.fx.s 0 sc.work
      → (b ≡ true → part (current_at o.fx.n) o.fx.n sc.work ≡ o.e.f₀) → (b ≡ false → o.answer Derivative o.x.time o.m.state ≡ o.e.f₀) → Differentiated c sc.work
      → length sc.pivots ≡ o.fx.n
      → Conforms o (unless_cached (then_some b v) (derivative_items p o.e) ++ (unless_cached (then_some c d) (jacobian_items p o.e ++ partial_items p o.e) ++ matrix_on p o.e))
      (evaluate (given_in o) sc)
  unfolding pivots_unfit evaluate unless_cached derivative_items on_marks on_work noting with_caches with_derivative with_request_time resume written given_by state_asked wanted needed_work
  evaluates true c v d sc flag flag₂ sums there is h rows = chosen _ flag (differentiates c d sc flag₂ sums (there refl) h rows)
  evaluates false c v d sc flag flag₂ sums there is h rows =
      let n = o.fx.n in
      let w = sc.work in
      let long = sums.long in
      let f = o.answer Derivative o.x.time o.m.state in
      let but = stored w (current_at n) (el f) n in
      not_chosen _ flag
      (asks_rhs refl (record { work = long; pivots = rows; range = tt; rows = refl })
      (goes_on _ (ap all_finite (is refl))
      (λ _.
      differentiates c d _ flag₂ (sums_kept but sums (omega arith))
      (part_stored w (current_at n) f n nan (o.ready.long Derivative o.x.time o.m.state) (omega arith) ∙ is refl)
      (record {
        if_cached =
            λ q. (
              but.left (jacobian_at n) (n * n) (omega arith) (inr (omega arith)) ∙ (h.if_cached q).0,
              but.left (time_partial_at n) n (omega arith) (inr (omega arith)) ∙ (h.if_cached q).1,
            );
        if_not = h.if_not;
      })
      rows)))

-- ---- what the work holds at the start
module _ (fx : Fixed) (file : List ℕ) (x : Progress) (m : Lent) (state : length m.state ≡ fx.n) (long : length m.work ≡ needed_work fx.n fx.s) where
  abbrev w : List Float
  w = begun (given_by fx file x m) m.work

  begun_long : length w ≡ needed_work fx.n fx.s
  unfolding begun given_by
  begun_long = length-puts _ _ _ fx.n ∙ length-puts m.work _ _ fx.n ∙ long

  pub begun_candidate : part (candidate_at fx.n) fx.n w ≡ m.state
  unfolding begun given_by needed_work
  begun_candidate =
      let n = fx.n in
      let v = puts m.work (candidate_at n) (el m.state) n in
      let same : length v ≡ length m.work = length-puts m.work _ _ n in
      part_left v (error_at n) _ n (candidate_at n) n nan (omega arith) (inl (omega arith)) ∙ part_stored m.work (candidate_at n) m.state n nan state (omega arith)

  pub begun_error : part (error_at fx.n) fx.n w ≡ table (λ k. 𝟎) fx.n
  unfolding begun given_by needed_work
  begun_error =
      let n = fx.n in
      let v = puts m.work (candidate_at n) (el m.state) n in
      let same : length v ≡ length m.work = length-puts m.work _ _ n in
      part-puts v (error_at n) _ n nan (omega arith)

  -- what stands after the error
  pub begun_left : (a c : ℕ) → a + c ≤ length m.work → 2 * fx.n ≤ a → part a c w ≡ part a c m.work
  unfolding begun given_by
  begun_left a c h l =
      let n = fx.n in
      let v = puts m.work (candidate_at n) (el m.state) n in
      let same : length v ≡ length m.work = length-puts m.work _ _ n in
      part_left v (error_at n) _ n a c nan (omega arith) (inr (omega arith)) ∙ part_left m.work (candidate_at n) _ n a c nan h (inr (omega arith))

  pub begun_sums : (answer : Answers) (e : Evaluated) → Sums (step_of fx file answer x m) e fx.s 0 w
  unfolding needed_work new_state error_of plus_products
  begun_sums answer e =
      record {
        long = begun_long;
        candidate_there = begun_candidate ∙ sym (table_own nan m.state fx.n state);
        error_there = begun_error;
      }
