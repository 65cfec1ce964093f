-- What the lent work holds as a stage is opened, has its derivative, is solved and is added up. Assumes nothing.
use Prim.Native.Nat.{ℕ, zero, suc, ◌+◌, ◌*◌, ◌<◌, ◌≤◌}
use native.Mathlib.Nat.{mul-le-mul_right, suc-mul, zero-mul}
use native.Mathlib.Omega.{arith}
use mathlib.Core.Path.{◌≡◌, sym, ap, ap₂, ◌∙◌}
use mathlib.Core.List.{List, ◌++◌}
use mathlib.Core.Logic.{◌⊎◌, inl, inr}
use lib.Arith.{digits_lt}
use lib.ListN.{length, length-append, get_or-append}
use lib.Seq.{get_or-append-add}
use lib.Ieee.{Float, nan}
use Rattle.float.specs.Operators.{◌⊕◌, ◌⊗◌}
use Rattle.vector.specs.Lists.{el, table}
use Rattle.vector.specs.Matrices.{entry}
use Rattle.vector.specs.Parts.{part, puts}
use Rattle.vector.proofs.Lists.{length-table, table_at, table_same}
use Rattle.vector.proofs.Parts.{part_joined, part-puts}
use Rattle.linear.specs.Elimination.{eliminated}
use Rattle.linear.specs.Substitution.{solution}
use Rattle.tableau.specs.Tableau.{b_of}
use Rattle.stages.specs.Layout.{candidate_at, error_at, stage_state_at, linear_rhs_at, stages_at, stage_at, rhs_stages_at, rhs_stage_at}
use Rattle.stages.specs.Method.{right_hand_side, stage_value, error_weight, new_state, error_of, plus_products}
use Rattle.stages.specs.Memory.{component, stage_in, with_stage_state, with_right_hand_side, with_solution, with_stage, with_stage_solved, with_added, with_stage_added}
use Rattle.stages.proofs.Agreement.{new_same, error_same}
use Rattle.stages.proofs.Writes.{state_written, solved_written, added_length, added_candidate, added_error}
use Rattle.method.specs.Step.{Attempted, Evaluated, matrix, solve, state_of, derivative_of, stage_of, stages, derivatives}
use Rattle.method.proofs.Holds.{But, stored, Inputs, Factors, Sums, Rows, sums_kept, rows_kept, inputs_kept, factors_kept}

module _ (p : Attempted) (e : Evaluated) where
  length_stage : (i : ℕ) (u : List Float) → length (stage_of p e i u) ≡ p.n
  unfolding stage_of
  length_stage i u = length-table _ p.n

  pub length-stages : (i : ℕ) → length (stages p e i) ≡ i * p.n
  unfolding stages
  length-stages zero = sym (zero-mul p.n)
  length-stages (suc i) =
      length-append (stages p e i) (stage_of p e i (stages p e i)) ∙ (omega (arith, length-stages i, length_stage i (stages p e i), suc-mul i p.n))

  -- the stages so far, with one more: those before it, and itself
  before_same : (i j k : ℕ) → j < i → k < p.n → entry p.n (stages p e i) j k ≡ entry p.n (stages p e (suc i)) j k
  unfolding stages
  before_same i j k h l =
      sym (get_or-append (stages p e i) (stage_of p e i (stages p e i)) nan (j * p.n + k) (omega (arith, length-stages i, digits_lt h l)))

  itself_same : (i k : ℕ) → el (stage_of p e i (stages p e i)) k ≡ entry p.n (stages p e (suc i)) i k
  unfolding stages
  itself_same i k =
      sym (get_or-append-add (stages p e i) (stage_of p e i (stages p e i)) k nan)
      ∙ ap (λ (l : ℕ). el (stages p e i ++ stage_of p e i (stages p e i)) (l + k)) (length-stages i)

  -- one more stage in the sums
  candidate_more : (i : ℕ) → table (λ k. el (table (new_state p.tableau (entry p.n (stages p e i)) (el p.y) i) p.n) k ⊕ b_of p.tableau i ⊗ el (stage_of p e i (stages p e i)) k) p.n
      ≡ table (new_state p.tableau (entry p.n (stages p e (suc i))) (el p.y) (suc i)) p.n
  unfolding new_state plus_products
  candidate_more i =
      table_same _ _ p.n
      (λ k h.
      ap₂ (λ (a b : Float). a ⊕ b_of p.tableau i ⊗ b)
      (table_at nan _ p.n k h ∙ new_same p.tableau i k (entry p.n (stages p e i)) (entry p.n (stages p e (suc i))) (λ j q. before_same i j k q h) (el p.y))
      (itself_same i k))

  error_more : (i : ℕ) → table (λ k. el (table (error_of p.tableau (entry p.n (stages p e i)) i) p.n) k ⊕ error_weight p.tableau i ⊗ el (stage_of p e i (stages p e i)) k) p.n
      ≡ table (error_of p.tableau (entry p.n (stages p e (suc i))) (suc i)) p.n
  unfolding error_of plus_products
  error_more i =
      table_same _ _ p.n
      (λ k h.
      ap₂ (λ (a b : Float). a ⊕ error_weight p.tableau i ⊗ b)
      (table_at nan _ p.n k h ∙ error_same p.tableau i k (entry p.n (stages p e i)) (entry p.n (stages p e (suc i))) (λ j q. before_same i j k q h))
      (itself_same i k))

  module _ (s : ℕ) where
    pub record Solving (c i j : ℕ) (w : List Float) (pivots : List ℕ) : Type 0 where
      pub sums : Sums p e s c w
      pub rows : Rows p e s i j w
      pub inputs : Inputs p e w
      pub factors : Factors p e w pivots

    -- a store after the error and before the stages, beside the inputs and the factors
    solving_kept : {at k c i j : ℕ} {w v : List Float} {pivots : List ℕ} → But at k w v → Solving c i j w pivots → 2 * p.n ≤ at → (at + k ≤ 3 * p.n) ⊎ (5 * p.n ≤ at)
        → at + k ≤ 8 * p.n → Solving c i j v pivots
    solving_kept {w = w} but h low o high =
        let long = h.sums.long in
        record {
          sums = sums_kept but h.sums low;
          rows = rows_kept but long h.rows (omega arith);
          inputs = inputs_kept but (omega arith) h.inputs o (inl high);
          factors = factors_kept but (omega arith) h.factors (inl (omega arith));
        }

    -- a store among the stages and the derivatives at them, which are rows after it
    rows_written : {at k c i j i' j' : ℕ} {w v : List Float} {pivots : List ℕ} → But at k w v → Solving c i j w pivots → 8 * p.n + 2 * (p.n * p.n) ≤ at → Rows p e s i' j' v
        → Solving c i' j' v pivots
    rows_written but h low rows =
        let long = h.sums.long in
        record {
          sums = sums_kept but h.sums (omega arith);
          rows = rows;
          inputs = inputs_kept but (omega arith) h.inputs (inr (omega arith)) (inr (omega arith));
          factors = factors_kept but (omega arith) h.factors (inr low);
        }

    module _ (i : ℕ) (below : i < s) (w : List Float) (pivots : List ℕ) where
      fits : suc i * p.n ≤ s * p.n
      fits = mul-le-mul_right p.n below

      one_more : suc i * p.n ≡ i * p.n + p.n
      one_more = suc-mul i p.n

      -- the state of stage i
      pub state_there : Solving i i i w pivots → part (stage_state_at p.n) p.n (with_stage_state p.n p.tableau p.y i w) ≡ state_of p e i (stages p e i)
      unfolding state_of
      state_there h =
          let long = h.sums.long in
          state_written p.n s p.tableau w p.y i (stages p e i) (omega arith) h.rows.stages_there

      pub state_leaves : Solving i i i w pivots → Solving i i i (with_stage_state p.n p.tableau p.y i w) pivots
      unfolding with_stage_state
      state_leaves h = solving_kept (stored w (stage_state_at p.n) _ p.n) h (omega arith) (inl (omega arith)) (omega arith)

      -- the derivative at stage i
      module _ (f : ℕ → Float) (is : table f p.n ≡ derivative_of p e i (stages p e i)) (h : Solving i i i w pivots) where
        pub derivative_there : part (rhs_stage_at p.n s i) p.n (puts w (rhs_stage_at p.n s i) f p.n) ≡ derivative_of p e i (stages p e i)
        derivative_there = let long = h.sums.long in part-puts w (rhs_stage_at p.n s i) f p.n nan (omega (arith, fits, one_more)) ∙ is

        pub derivative_leaves : Solving i i (suc i) (puts w (rhs_stage_at p.n s i) f p.n) pivots
        unfolding derivatives
        derivative_leaves =
            let but = stored w (rhs_stage_at p.n s i) f p.n in
            let long = h.sums.long in
            let r = fits in
            let q = one_more in
            rows_written but h (omega arith)
            (record {
              stages_fit = h.rows.stages_fit;
              derivatives_fit = fits;
              stages_there = but.left (stages_at p.n) (i * p.n) (omega arith) (inl (omega arith)) ∙ h.rows.stages_there;
              derivatives_there =
                  ap (λ (l : ℕ). part (rhs_stages_at p.n s) l (puts w (rhs_stage_at p.n s i) f p.n)) q
                  ∙ part_joined (rhs_stages_at p.n s) (i * p.n) p.n (puts w (rhs_stage_at p.n s i) f p.n)
                  ∙ ap₂ ◌++◌ (but.left (rhs_stages_at p.n s) (i * p.n) (omega arith) (inl (omega arith)) ∙ h.rows.derivatives_there) derivative_there;
            })

      -- stage i, solved: the right-hand side, its solution in its place, then the stage
      module _ (at_stage : part (rhs_stage_at p.n s i) p.n w ≡ derivative_of p e i (stages p e i)) (h : Solving i i (suc i) w pivots) where
        abbrev v : List Float
        v = with_stage_solved p.n s p.tableau pivots i p.h w

        pub stage_there : part (stage_at p.n i) p.n v ≡ stage_of p e i (stages p e i)
        unfolding stage_of solve
        stage_there =
            let long = h.sums.long in
            let r = fits in
            let q = one_more in
            let u = stages p e i in
            let f = derivative_of p e i u in
            let a = eliminated p.n (matrix p e) p.n in
            let b = table (right_hand_side p.tableau p.h i (entry p.n u) (el f) (el e.fₜ)) p.n in
            solved_written p.n s p.tableau w pivots i p.h (omega arith) u f e.fₜ a
            h.rows.stages_there at_stage h.inputs.partial_there h.factors.factors_there
            ∙ ap (λ (rows : List ℕ). table (stage_value p.tableau p.h (el (solution p.n a rows b))) p.n) h.factors.pivots_there

        pub stage_leaves : Solving i (suc i) (suc i) v pivots
        unfolding stages with_stage_solved with_stage with_solution with_right_hand_side
        stage_leaves =
            let r = fits in
            let q = one_more in
            let w₁ = with_right_hand_side p.n s p.tableau i p.h w in
            let w₂ = with_solution p.n pivots w₁ in
            let h₁ : Solving i i (suc i) w₁ pivots = solving_kept (stored w (linear_rhs_at p.n) _ p.n) h (omega arith) (inr (omega arith)) (omega arith) in
            let h₂ : Solving i i (suc i) w₂ pivots = solving_kept (stored w₁ (linear_rhs_at p.n) _ p.n) h₁ (omega arith) (inr (omega arith)) (omega arith) in
            let but : But (stage_at p.n i) p.n w₂ v = stored w₂ (stage_at p.n i) _ p.n in
            let long = h₂.sums.long in
            rows_written but h₂ (omega arith)
            (record {
              stages_fit = fits;
              derivatives_fit = fits;
              stages_there =
                  ap (λ (l : ℕ). part (stages_at p.n) l v) q
                  ∙ part_joined (stages_at p.n) (i * p.n) p.n v
                  ∙ ap₂ ◌++◌ (but.left (stages_at p.n) (i * p.n) (omega arith) (inl (omega arith)) ∙ h₂.rows.stages_there) stage_there;
              derivatives_there = but.left (rhs_stages_at p.n s) (suc i * p.n) (omega arith) (inr (omega arith)) ∙ h₂.rows.derivatives_there;
            })

      -- stage i, added up: what stands after the error is left
      pub added_leaves : part (stage_at p.n i) p.n w ≡ stage_of p e i (stages p e i) → Solving i (suc i) (suc i) w pivots
          → Solving (suc i) (suc i) (suc i) (with_stage_added p.n p.tableau i w) pivots
      unfolding with_stage_added with_added
      added_leaves at_stage h =
          let long = h.sums.long in
          let r = fits in
          let q = one_more in
          let w₁ = with_added p.n (candidate_at p.n) (b_of p.tableau i) i w in
          let but : But (candidate_at p.n) p.n w w₁ = stored w (candidate_at p.n) _ p.n in
          let but₂ = stored w₁ (error_at p.n) (λ k. component w₁ (error_at p.n) k ⊕ error_weight p.tableau i ⊗ stage_in p.n w₁ i k) p.n in
          let long₁ : length w₁ ≡ length w = but.same_length in
          record {
            sums =
                record {
                  long = added_length p.n s p.tableau w i ∙ long;
                  candidate_there = added_candidate p.n s p.tableau w i (omega arith) _ at_stage _ h.sums.candidate_there ∙ candidate_more i;
                  error_there = added_error p.n s p.tableau w i (omega arith) _ at_stage _ h.sums.error_there ∙ error_more i;
                };
            rows = rows_kept but₂ (omega arith) (rows_kept but long h.rows (omega arith)) (omega arith);
            inputs = inputs_kept but₂ (omega arith) (inputs_kept but (omega arith) h.inputs (inl (omega arith)) (inl (omega arith))) (inl (omega arith)) (inl (omega arith));
            factors = factors_kept but₂ (omega arith) (factors_kept but (omega arith) h.factors (inl (omega arith))) (inl (omega arith));
          }
