-- The sums of a stage read only the stages before it: where those agree, so do the sums. Assumes nothing.
use Prim.Native.Nat.{ℕ, zero, suc, ◌<◌}
use native.Mathlib.Omega.{arith}
use mathlib.Core.Path.{◌≡◌, refl}
use lib.Ieee.{Float}
use Rattle.tableau.specs.Tableau.{Tableau}
use Rattle.stages.specs.Method.{plus_products, stage_state, right_hand_side, stage_value, new_state, error_of}
use Rattle.stages.proofs.Sums.{sum_same}

module _ (c x y : ℕ → Float) (v : Float) where
  pub products_same : (i : ℕ) → ((j : ℕ) → j < i → x j ≡ y j) → plus_products c x v i ≡ plus_products c y v i
  unfolding plus_products
  products_same zero h = refl
  products_same (suc i) h = rw (products_same i (λ j k. h j (omega arith)), h i (omega arith))

pub value_same : (t : Tableau) (h : Float) (x y : ℕ → Float) (k : ℕ) → x k ≡ y k → stage_value t h x k ≡ stage_value t h y k
unfolding stage_value
value_same t h x y k e = rw e

-- component k, for stages u and v that agree there before stage i
module _ (t : Tableau) (i k : ℕ) (u v : ℕ → ℕ → Float) (same : (j : ℕ) → j < i → u j k ≡ v j k) where
  pub state_same : (y : ℕ → Float) → stage_state t i u y k ≡ stage_state t i v y k
  unfolding stage_state
  state_same y = sum_same _ _ _ i same refl

  pub rhs_same : (h : Float) (f g fₜ gₜ : ℕ → Float) → f k ≡ g k → fₜ k ≡ gₜ k → right_hand_side t h i u f fₜ k ≡ right_hand_side t h i v g gₜ k
  unfolding right_hand_side
  rhs_same h f g fₜ gₜ a b = sum_same _ _ _ i same (rw (a, b) refl)

  pub new_same : (y : ℕ → Float) → new_state t u y i k ≡ new_state t v y i k
  unfolding new_state
  new_same y = products_same _ _ _ _ i same

  pub error_same : error_of t u i k ≡ error_of t v i k
  unfolding error_of
  error_same = products_same _ _ _ _ i same
