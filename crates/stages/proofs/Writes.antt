-- What each of the stages' functions on the lent work writes, in terms of what the parts that it reads hold, and what it leaves. Assumes nothing.
use Prim.Native.Nat.{ℕ, ◌+◌, ◌*◌, ◌<◌, ◌≤◌}
use native.Mathlib.Omega.{arith}
use mathlib.Core.Path.{◌≡◌, sym, ap, ap₂, ◌∙◌}
use mathlib.Core.List.{List}
use mathlib.Core.Logic.{◌⊎◌, inl, inr}
use lib.Arith.{digits_lt}
use lib.ListN.{length}
use lib.Ieee.{Float, nan}
use Rattle.float.specs.Operators.{◌⊕◌, ◌⊗◌}
use Rattle.vector.specs.Lists.{el, table}
use Rattle.vector.specs.Matrices.{entry}
use Rattle.vector.specs.Parts.{part}
use Rattle.vector.proofs.Lists.{table_same, table_own}
use Rattle.vector.proofs.Matrices.{length-rows}
use Rattle.vector.proofs.Parts.{part_at, part-puts, part_left}
use Rattle.vector.proofs.Stores.{length-puts, puts_held}
use Rattle.linear.specs.Substitution.{solution}
use Rattle.tableau.specs.Tableau.{Tableau, b_of}
use Rattle.stages.specs.Layout.{candidate_at, error_at, stage_state_at, time_partial_at, linear_rhs_at, jacobian_at, factors_at, stages_at, stage_at, rhs_stage_at}
use Rattle.stages.specs.Method.{stage_state, right_hand_side, stage_matrix, stage_value, error_weight}
use Rattle.stages.specs.Memory.{component, stage_in, with_stage_state, with_right_hand_side, with_solution, with_stage, with_stage_solved, with_added, with_stage_added, with_matrix, elimination_in, with_factors}
use Rattle.stages.proofs.Agreement.{state_same, rhs_same, value_same}

-- a component, from what the part holds
pub read : (at n : ℕ) (w x : List Float) (k : ℕ) → part at n w ≡ x → k < n → component w at k ≡ el x k
read at n w x k e h = sym (part_at nan at n w k h) ∙ ap (λ (l : List Float). el l k) e

pub read_stage : (n i : ℕ) (w u : List Float) (j k : ℕ) → part (stages_at n) (i * n) w ≡ u → j < i → k < n → stage_in n w j k ≡ entry n u j k
read_stage n i w u j k e h l =
    let a : stage_at n j + k ≡ stages_at n + (j * n + k) = omega arith in
    ap (el w) a ∙ read (stages_at n) (i * n) w u (j * n + k) e (digits_lt h l)

pub matrix_length : (t : Tableau) (h : Float) (n : ℕ) (J : List Float) → length (stage_matrix t h n J) ≡ n * n
unfolding stage_matrix
matrix_length t h n J = length-rows _ n n

module _ (n s : ℕ) (t : Tableau) (w : List Float) where
  -- the state of stage i, u being the stages before it
  pub state_written : (y : List Float) (i : ℕ) (u : List Float) → stage_state_at n + n ≤ length w → part (stages_at n) (i * n) w ≡ u
      → part (stage_state_at n) n (with_stage_state n t y i w) ≡ table (stage_state t i (entry n u) (el y)) n
  unfolding with_stage_state
  state_written y i u h e =
      part-puts w (stage_state_at n) (stage_state t i (stage_in n w) (el y)) n nan h
      ∙ table_same _ _ n (λ k l. state_same t i k (stage_in n w) (entry n u) (λ j q. read_stage n i w u j k e q l) (el y))

  -- ---- stage i is solved: the right-hand side, its solution in its place, then the stage
  module _ (pivots : List ℕ) (i : ℕ) (h : Float) (room : stage_at n i + n ≤ length w) where
    pub solved_length : length (with_stage_solved n s t pivots i h w) ≡ length w
    unfolding with_stage_solved with_stage with_solution with_right_hand_side
    solved_length = length-puts _ _ _ n ∙ length-puts _ _ _ n ∙ length-puts w _ _ n

    -- what lies beside both places
    pub solved_left : (a c : ℕ) → a + c ≤ length w → (a + c ≤ linear_rhs_at n) ⊎ (linear_rhs_at n + n ≤ a) → (a + c ≤ stage_at n i) ⊎ (stage_at n i + n ≤ a)
        → part a c (with_stage_solved n s t pivots i h w) ≡ part a c w
    unfolding with_stage_solved with_stage with_solution with_right_hand_side
    solved_left a c b o q =
        let w₁ = with_right_hand_side n s t i h w in
        let w₂ = with_solution n pivots w₁ in
        let l₁ : length w₁ ≡ length w = length-puts w _ _ n in
        let l₂ : length w₂ ≡ length w₁ = length-puts w₁ _ _ n in
        part_left w₂ (stage_at n i) _ n a c nan (omega arith) q ∙ part_left w₁ (linear_rhs_at n) _ n a c nan (omega arith) o ∙ part_left w (linear_rhs_at n) _ n a c nan b o

    pub solved_written : (u f fₜ factors : List Float) → part (stages_at n) (i * n) w ≡ u → part (rhs_stage_at n s i) n w ≡ f
        → part (time_partial_at n) n w ≡ fₜ → part (factors_at n) (n * n) w ≡ factors
        → part (stage_at n i) n (with_stage_solved n s t pivots i h w)
        ≡ table (stage_value t h (el (solution n factors pivots (table (right_hand_side t h i (entry n u) (el f) (el fₜ)) n)))) n
    unfolding with_stage_solved with_stage with_solution with_right_hand_side
    solved_written u f fₜ factors eu ef et ea =
        let w₁ = with_right_hand_side n s t i h w in
        let w₂ = with_solution n pivots w₁ in
        let l₁ : length w₁ ≡ length w = length-puts w _ _ n in
        let l₂ : length w₂ ≡ length w₁ = length-puts w₁ _ _ n in
        let b = table (right_hand_side t h i (entry n u) (el f) (el fₜ)) n in
        let rhs : part (linear_rhs_at n) n w₁ ≡ b =
        part-puts w (linear_rhs_at n) _ n nan (omega arith)
        ∙ table_same _ _ n
        (λ k q.
        rhs_same t i k (stage_in n w) (entry n u) (λ j r. read_stage n i w u j k eu r q) h (component w (rhs_stage_at n s i)) (el f)
        (component w (time_partial_at n)) (el fₜ) (read (rhs_stage_at n s i) n w f k ef q) (read (time_partial_at n) n w fₜ k et q)) in
        let same : part (factors_at n) (n * n) w₁ ≡ factors =
        part_left w (linear_rhs_at n) _ n (factors_at n) (n * n) nan (omega arith) (inr (omega arith)) ∙ ea in
        let x : solution n (part (factors_at n) (n * n) w₁) pivots (part (linear_rhs_at n) n w₁) ≡ solution n factors pivots b =
        ap₂ (λ (a r : List Float). solution n a pivots r) same rhs in
        part-puts w₂ (stage_at n i) _ n nan (omega arith)
        ∙ table_same _ _ n
        (λ k q.
        value_same t h (component w₂ (linear_rhs_at n)) (el (solution n factors pivots b)) k
        (puts_held nan w₁ (linear_rhs_at n) _ n k (omega arith) q ∙ ap (λ (l : List Float). el l k) x))

  -- ---- stage i is added to the candidate, then to the error
  pub added_length : (i : ℕ) → length (with_stage_added n t i w) ≡ length w
  unfolding with_stage_added with_added
  added_length i = length-puts _ _ _ n ∙ length-puts w _ _ n

  pub added_left : (i a c : ℕ) → a + c ≤ length w → error_at n + n ≤ a → part a c (with_stage_added n t i w) ≡ part a c w
  unfolding with_stage_added with_added
  added_left i a c b q =
      let w₁ = with_added n (candidate_at n) (b_of t i) i w in
      let l₁ : length w₁ ≡ length w = length-puts w _ _ n in
      part_left w₁ (error_at n) _ n a c nan (omega arith) (inr q) ∙ part_left w (candidate_at n) _ n a c nan b (inr (omega arith))

  -- c and r being the candidate and the error before, and v the stage
  module _ (i : ℕ) (room : stage_at n i + n ≤ length w) (v : List Float) (ev : part (stage_at n i) n w ≡ v) where
    pub added_candidate : (c : List Float) → part (candidate_at n) n w ≡ c → part (candidate_at n) n (with_stage_added n t i w) ≡ table (λ k. el c k ⊕ b_of t i ⊗ el v k) n
    unfolding with_stage_added with_added
    added_candidate c ec =
        let w₁ = with_added n (candidate_at n) (b_of t i) i w in
        let l₁ : length w₁ ≡ length w = length-puts w _ _ n in
        part_left w₁ (error_at n) _ n (candidate_at n) n nan (omega arith) (inl (omega arith))
        ∙ part-puts w (candidate_at n) _ n nan (omega arith)
        ∙ table_same _ _ n (λ k q. ap₂ (λ (a x : Float). a ⊕ b_of t i ⊗ x) (read (candidate_at n) n w c k ec q) (read (stage_at n i) n w v k ev q))

    pub added_error : (r : List Float) → part (error_at n) n w ≡ r → part (error_at n) n (with_stage_added n t i w) ≡ table (λ k. el r k ⊕ error_weight t i ⊗ el v k) n
    unfolding with_stage_added with_added
    added_error r er =
        let w₁ = with_added n (candidate_at n) (b_of t i) i w in
        let l₁ : length w₁ ≡ length w = length-puts w _ _ n in
        let kept : part (error_at n) n w₁ ≡ r = part_left w (candidate_at n) _ n (error_at n) n nan (omega arith) (inr (omega arith)) ∙ er in
        let stage : part (stage_at n i) n w₁ ≡ v = part_left w (candidate_at n) _ n (stage_at n i) n nan room (inr (omega arith)) ∙ ev in
        part-puts w₁ (error_at n) _ n nan (omega arith)
        ∙ table_same _ _ n (λ k q. ap₂ (λ (a x : Float). a ⊕ error_weight t i ⊗ x) (read (error_at n) n w₁ r k kept q) (read (stage_at n i) n w₁ v k stage q))

  -- ---- the matrix of the stages, and its factors
  pub matrix_written : (h : Float) (J : List Float) → factors_at n + n * n ≤ length w → part (jacobian_at n) (n * n) w ≡ J
      → part (factors_at n) (n * n) (with_matrix n t h w) ≡ stage_matrix t h n J
  unfolding with_matrix
  matrix_written h J b e =
      part-puts w (factors_at n) _ (n * n) nan b
      ∙ table_own nan (stage_matrix t h n (part (jacobian_at n) (n * n) w)) (n * n) (matrix_length t h n (part (jacobian_at n) (n * n) w))
      ∙ ap (stage_matrix t h n) e

  pub factors_written : (pivots : List ℕ) (factors : List Float) → factors_at n + n * n ≤ length w → (elimination_in n pivots w).matrix ≡ factors → length factors ≡ n * n
      → part (factors_at n) (n * n) (with_factors n pivots w) ≡ factors
  unfolding with_factors
  factors_written pivots factors b e h =
      part-puts w (factors_at n) _ (n * n) nan b ∙ ap (λ (l : List Float). table (el l) (n * n)) e ∙ table_own nan factors (n * n) h
