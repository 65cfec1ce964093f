-- The search for a pivot, row by row. Assumes nothing.
use Prim.Native.Nat.{ℕ, zero, suc, ◌+◌, ◌<◌, ◌≤◌}
use native.Mathlib.Numerals.{add-one}
use native.Mathlib.Omega.{arith}
use mathlib.Core.Path.{◌≡◌, refl, sym, ap, ◌∙◌}
use mathlib.Core.Bool.{true, false, ◌&&◌}
use lib.Dec.{ltb}
use lib.Ieee.{Float, lt}
use borrow.Author.Tests.{lt-ltb, le-ltb}
use Rattle.float.specs.Methods.{abs}
use Rattle.float.proofs.Cases.{by}
use Rattle.linear.specs.Elimination.{largest_row}

module _ (a : ℕ → ℕ → Float) (k : ℕ) where
  pub search_start : (r : ℕ) → r ≤ k + 1 → largest_row a k r ≡ k
  unfolding largest_row
  search_start zero h = refl
  search_start (suc r) h = rw (le-ltb k r (omega arith)) (search_start r (omega arith))

  -- one more row: its entry is larger in magnitude, or it is not
  pub search_larger : (r : ℕ) {p : ℕ} {best : Float} → k < r → p ≡ largest_row a k r → best ≡ abs (a p k) → lt best (abs (a r k)) ≡ true
      → r ≡ largest_row a k (r + 1)
  unfolding largest_row
  search_larger r {p} {best} h e f t =
      let t' : lt (abs (a (largest_row a k r) k)) (abs (a r k)) ≡ true = ap (λ (z : ℕ). lt (abs (a z k)) (abs (a r k))) (sym e) ∙ ap (λ (z : Float). lt z (abs (a r k))) (sym f) ∙ t in
      rw (add-one, lt-ltb k r h, t')

  pub search_kept : (r : ℕ) {p : ℕ} {best : Float} → k < r → p ≡ largest_row a k r → best ≡ abs (a p k) → lt best (abs (a r k)) ≡ false
      → p ≡ largest_row a k (r + 1)
  unfolding largest_row
  search_kept r {p} {best} h e f t =
      let t' : lt (abs (a (largest_row a k r) k)) (abs (a r k)) ≡ false = ap (λ (z : ℕ). lt (abs (a z k)) (abs (a r k))) (sym e) ∙ ap (λ (z : Float). lt z (abs (a r k))) (sym f) ∙ t in
      rw (add-one, lt-ltb k r h, t') e

  pub search_below : (n r : ℕ) → k < n → r ≤ n → largest_row a k r < n
  unfolding largest_row
  search_below n zero h q = h
  search_below n (suc r) h q =
      by (ltb k r && lt (abs (a (largest_row a k r) k)) (abs (a r k))) (λ t. rw t q) (λ t. rw t (search_below n r h (omega arith)))
