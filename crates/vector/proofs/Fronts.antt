-- A list whose first k elements are replaced by as many others: `p ++ drop k w`. Assumes nothing.
use Rattle.std.proofs.lemmas.Grind.{common_steps}
use Prim.Native.Nat.{ℕ, zero, suc}
use native.Mathlib.Omega.{arith}
use mathlib.Core.Path.{◌≡◌, refl, ap}
use mathlib.Core.List.{List, [], ◌∷◌, ◌++◌}
use lib.ListN.{length, take, drop, length-take}

module _ {A : Type 0} where
  pub length_front : (k : ℕ) (v w : List A) → length v ≡ length w → length (take k v) ≡ length (take k w)
  length_front k v w e = simp (length-take, e)

  -- its first k elements, the others, and its length
  pub take_front : (k : ℕ) (w p : List A) → length p ≡ length (take k w) → take k (p ++ drop k w) ≡ p
  take_front zero w [] h = refl
  take_front zero w (x ∷ p) h = absurd (omega arith)
  take_front (suc k) [] [] h = refl
  take_front (suc k) [] (x ∷ p) h = absurd (omega arith)
  take_front (suc k) (y ∷ w) [] h = absurd (omega arith)
  take_front (suc k) (y ∷ w) (x ∷ p) h = ap (λ (l : List A). x ∷ l) (take_front k w p (omega arith))

  pub drop_front : (k : ℕ) (w p : List A) → length p ≡ length (take k w) → drop k (p ++ drop k w) ≡ drop k w
  drop_front zero w [] h = refl
  drop_front zero w (x ∷ p) h = absurd (omega arith)
  drop_front (suc k) [] [] h = refl
  drop_front (suc k) [] (x ∷ p) h = absurd (omega arith)
  drop_front (suc k) (y ∷ w) [] h = absurd (omega arith)
  drop_front (suc k) (y ∷ w) (x ∷ p) h = drop_front k w p (omega arith)

  pub length_replaced : (k : ℕ) (w p : List A) → length p ≡ length (take k w) → length (p ++ drop k w) ≡ length w
  length_replaced k w p h = grind (arith, common_steps)
