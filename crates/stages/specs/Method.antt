-- The stages of a Rosenbrock method, in the transformed form of Hairer and Wanner, Solving Ordinary Differential Equations II, 2nd edition, IV.7 (7.25, 7.26).
-- For a step h from time t and state y, with J the Jacobian and f_t the time partial at (t, y), and the sums over j < i:
--
--   (I / (h γ) - J) u_i = f(t + c_i h, y + Σ a_ij u_j) + d_i h f_t + Σ (coupling_ij / h) u_j,     y + Σ b_i u_i the new state
--
-- with the tableau's names of the coefficients (tableau/specs/Tableau). Both sides are taken times h γ: the system solved is
-- (I - h γ J) x = right-hand side, and u_i = (h γ) x. By element, each operation rounded once, in the order that stands here. Definitions only.
use Rattle.std.specs.Prelude.{ℕ, zero, suc, cond, List, eqb, Float}
use Rattle.std.specs.Float.Ieee.{ne}
use Rattle.float.specs.Operators.{◌⊕◌, ◌⊖◌, ◌⊗◌, ◌⊘◌, 𝟎, 𝟏}
use Rattle.vector.specs.Matrices.{entry, rows}
use Rattle.tableau.specs.Tableau.{Tableau, present, gamma_of, a_of, coupling_of, c_of, d_of, b_of, btilde_of}

-- v plus the multiple c x; v itself where c is a zero
unfoldable pub plus_multiple : Float → Float → Float → Float
plus_multiple v c x = cond (ne c 𝟎) (v ⊕ c ⊗ x) v

-- v plus c_0 x_0, .., c_(i-1) x_(i-1), from the left, without the multiples by a zero
unfoldable pub plus_multiples : (ℕ → Float) → (ℕ → Float) → Float → ℕ → Float
plus_multiples c x v zero = v
plus_multiples c x v (suc i) = plus_multiple (plus_multiples c x v i) (c i) (x i)

-- v plus c_0 x_0, .., c_(i-1) x_(i-1), from the left, with all of them
unfoldable pub plus_products : (ℕ → Float) → (ℕ → Float) → Float → ℕ → Float
plus_products c x v zero = v
plus_products c x v (suc i) = plus_products c x v i ⊕ c i ⊗ x i

-- In what follows u j k is component k of stage j.
module _ (tableau : Tableau) where
  -- component k of the state at which stage i is evaluated: y + Σ a_ij u_j
  unfoldable pub stage_state : ℕ → (ℕ → ℕ → Float) → (ℕ → Float) → ℕ → Float
  stage_state i u y k = plus_multiples (a_of tableau i) (λ j. u j k) (y k) i

  -- the time at which stage i is evaluated: t + c_i h
  unfoldable pub stage_time : Float → Float → ℕ → Float
  stage_time t h i = t ⊕ c_of tableau i ⊗ h

  -- component k of the right-hand side of stage i: f_i + (h d_i) f_t + Σ (coupling_ij / h) u_j
  unfoldable pub right_hand_side : Float → ℕ → (ℕ → ℕ → Float) → (ℕ → Float) → (ℕ → Float) → ℕ → Float
  right_hand_side h i u f fₜ k = plus_multiples (λ j. coupling_of tableau i j ⊘ h) (λ j. u j k) (f k ⊕ (h ⊗ d_of tableau i) ⊗ fₜ k) i

  -- the matrix of every stage: I - (h γ) J, for n components
  unfoldable pub stage_matrix : Float → ℕ → List Float → List Float
  stage_matrix h n jacobian = rows (λ i j. cond (eqb i j) 𝟏 𝟎 ⊖ (h ⊗ gamma_of tableau) ⊗ entry n jacobian i j) n n

  -- component k of a stage, from the solution x of its system: (h γ) x
  unfoldable pub stage_value : Float → (ℕ → Float) → ℕ → Float
  stage_value h x k = (h ⊗ gamma_of tableau) ⊗ x k

  -- how much of stage i goes into the error: none where btilde is absent
  unfoldable pub error_weight : ℕ → Float
  error_weight i = cond (present tableau.counts) (btilde_of tableau i) 𝟎

  -- component k of the new state after i stages, y + Σ b_j u_j, and of the error, 0 + Σ btilde_j u_j
  unfoldable pub new_state : (ℕ → ℕ → Float) → (ℕ → Float) → ℕ → ℕ → Float
  new_state u y i k = plus_products (b_of tableau) (λ j. u j k) (y k) i

  unfoldable pub error_of : (ℕ → ℕ → Float) → ℕ → ℕ → Float
  error_of u i k = plus_products error_weight (λ j. u j k) 𝟎 i
