-- The factors of a matrix: the pivot is the largest of its column, so no multiplier exceeds 1 in magnitude, and the unit lower triangular factor has
-- entries of at most 1 (Golub and Van Loan, 3.4). Assumes nothing.
use Prim.Native.Nat.{ℕ, zero, suc, ◌<◌, ◌≤◌}
use native.Mathlib.Omega.{arith}
use mathlib.Core.Path.{◌≡◌, refl, ap, ◌∙◌}
use mathlib.Core.Bool.{Bool, true, false, ◌&&◌}
use mathlib.Core.List.{List}
use lib.Dec.{ltb, eqb}
use lib.Ieee.{Float, lt, le, eq, of_bits}
use lib.Ieee.Scale.{finite}
use borrow.Author.Tests.{eqb-true, eqb-false, eq-eqb, ne_eqb, lt-ltb, le-ltb, ltb-true, ltb-false}
use Rattle.float.specs.Operators.{◌⊘◌, 𝟎, 𝟏}
use Rattle.float.specs.Methods.{abs}
use Rattle.float.proofs.Cases.{by, and_left, and_right}
use Rattle.float.proofs.Order.{lt_not_gt}
use Rattle.vector.specs.Matrices.{entry}
use Rattle.vector.proofs.Matrices.{rows_at}
use Rattle.linear.specs.Elimination.{largest_row, pivot_row, interchange, multiplier, elimination_step, stepped, eliminated, pivot_of}
use Rattle.linear.specs.Substitution.{lower}
use Rattle.linear.proofs.Pivoting.{search_start, search_below}
use Rattle.float.proofs.Quotients.{lt_self, magnitudes_through, quotient_small}

-- ---- the pivot of a column
module _ (a : ℕ → ℕ → Float) (k : ℕ) where
  pub pivot_not_above : (r : ℕ) → k ≤ largest_row a k r
  unfolding largest_row
  pivot_not_above zero = omega arith
  pivot_not_above (suc r) =
      by (ltb k r && lt (abs (a (largest_row a k r) k)) (abs (a r k)))
      (λ t. rw t (omega (arith, ltb-true k r (and_left (ltb k r) _ t))))
      (λ t. rw t (pivot_not_above r))

  -- no entry of the column, from row k down, is larger
  pub pivot_largest : (n r q : ℕ) → r ≤ n → ((i : ℕ) → k ≤ i → i < n → finite (a i k) ≡ true) → k ≤ q → q < r
      → lt (abs (a (largest_row a k r) k)) (abs (a q k)) ≡ false
  unfolding largest_row
  pivot_largest n zero q z f h l = absurd (omega arith)
  pivot_largest n (suc r) q z f h l =
      let p = largest_row a k r in
      let A = ltb k r in
      let B = lt (abs (a p k)) (abs (a r k)) in
      let inside : p < n = search_below a k n r (omega arith) (omega arith) in
      let rest : (eqb q r ≡ false) → lt (abs (a p k)) (abs (a q k)) ≡ false = λ u. pivot_largest n r q (omega arith) f h (omega (arith, eqb-false q r u)) in
      by (A && B)
      (λ t. rw t
      (by (eqb q r)
      (λ u. ap (λ (i : ℕ). lt (abs (a r k)) (abs (a i k))) (eqb-true q r u) ∙ lt_self (abs (a r k)))
      (λ u. magnitudes_through (a r k) (a p k) (a q k) (f r (omega arith) (omega arith)) (f p (pivot_not_above r) inside) (f q h (omega arith))
      (lt_not_gt (abs (a p k)) (abs (a r k)) (and_right A B t)) (rest u))))
      (λ t. rw t
      (by (eqb q r)
      (λ u. let e : q ≡ r = eqb-true q r u in
      by A
      (λ v. ap (λ (i : ℕ). lt (abs (a p k)) (abs (a i k))) e ∙ (rw v at t))
      (λ v. let s : p ≡ q = search_start a k r (omega (arith, ltb-false k r v)) ∙ (omega (arith, ltb-false k r v)) in
      ap (λ (i : ℕ). lt (abs (a i k)) (abs (a q k))) s ∙ lt_self (abs (a q k))))
      rest))

-- ---- one step
-- where rows k and p, the pivot's, are interchanged, row i below row k comes from row k or one below it
module _ (n k p i : ℕ) (hk : k ≤ p) (hp : p < n) (hi : k ≤ i) (hn : i < n) where
  from_below : (k ≤ interchange k p i) × (interchange k p i < n)
  from_below = by (eqb i p) (λ t. rw t (omega arith)) (λ t. rw t (by (eqb i k) (λ u. rw u (omega arith)) (λ u. rw u (omega arith))))

from_pivot : (k p : ℕ) → interchange k p k ≡ p
from_pivot k p = by (eqb k p) (λ t. rw t (eqb-true k p t)) (λ t. rw (t, eq-eqb k k refl))

-- Column k is finite from row k down, and its pivot is not 0: no multiplier exceeds 1 in magnitude.
pub multiplier_small : (n : ℕ) (a : ℕ → ℕ → Float) (k i : ℕ) → k < i → i < n → ((r : ℕ) → k ≤ r → r < n → finite (a r k) ≡ true)
    → eq (a (largest_row a k n) k) 𝟎 ≡ false → le (abs (multiplier (λ r j. a (interchange k (largest_row a k n) r) j) i k)) 𝟏 ≡ true
multiplier_small n a k i h hi f z =
    let p = largest_row a k n in
    let low = pivot_not_above a k n in
    let high = search_below a k n n (omega arith) (omega arith) in
    let r = interchange k p i in
    let b = from_below n k p i low high (omega arith) hi in
    ap (λ (q : ℕ). le (abs (a r k ⊘ a q k)) 𝟏) (from_pivot k p)
    ∙ quotient_small (a r k) (a p k) (f r b.0 b.1) (f p low high) z (pivot_largest a k n n r (omega arith) f b.0 b.1)

-- ---- all steps
-- Column k of the matrix that step k finds is finite from row k down, and its pivot is not 0.
pub record Regular (n : ℕ) (a : List Float) (k : ℕ) : Type 0 where
  pub column : (r : ℕ) → k ≤ r → r < n → finite (entry n (eliminated n a k) r k) ≡ true
  pub pivot : eq (entry n (eliminated n a k) (pivot_of n a k) k) 𝟎 ≡ false

-- a row above row k stays
from_above : (k p i : ℕ) → k ≤ p → i < k → interchange k p i ≡ i
from_above k p i h l = rw (ne_eqb i p (λ z. omega arith), ne_eqb i k (λ z. omega arith))

-- step k leaves the columns left of column k, but for the interchange
left_kept : (a : ℕ → ℕ → Float) (k i j : ℕ) → j < k → elimination_step k a i j ≡ a i j
left_kept a k i j h = by (ltb k i) (λ t. rw (t, lt-ltb j k h)) (λ t. rw t)

module _ (n : ℕ) (a : List Float) where
  -- after g steps, the multipliers of all of them
  pub multipliers_small : (g : ℕ) → g ≤ n → ((k : ℕ) → k < g → Regular n a k) → (i j : ℕ) → j < g → j < i → i < n
      → le (abs (entry n (eliminated n a g) i j)) 𝟏 ≡ true
  unfolding eliminated stepped
  multipliers_small zero z h i j hj l hi = absurd (omega arith)
  multipliers_small (suc k) z h i j hj l hi =
      let m = eliminated n a k in
      let p = pivot_row n m k in
      let b : ℕ → ℕ → Float = λ r c. entry n m (interchange k p r) c in
      let low = pivot_not_above (entry n m) k n in
      let high = search_below (entry n m) k n n (omega arith) (omega arith) in
      let small : Float → Bool = λ x. le (abs x) 𝟏 in
      ap small (rows_at (elimination_step k b) n n i j hi (omega arith))
      ∙ by (eqb j k)
      (λ t. let e : j ≡ k = eqb-true j k t in
      let q : elimination_step k b i j ≡ multiplier b i k = rw (lt-ltb k i (omega arith), le-ltb j k (omega arith), t) in
      ap small q ∙ multiplier_small n (entry n m) k i (omega arith) hi (h k (omega arith)).column (h k (omega arith)).pivot)
      (λ t. let u : j < k = omega (arith, eqb-false j k t) in
      let r = interchange k p i in
      let below : (j < r) × (r < n) =
      by (ltb i k)
      (λ v. rw (from_above k p i low (ltb-true i k v)) (l, hi))
      (λ v. let w = from_below n k p i low high (ltb-false i k v) hi in (omega arith, w.1)) in
      ap small (left_kept b k i j u) ∙ multipliers_small k (omega arith) (λ c q. h c (omega arith)) r j u below.0 below.1)

  -- the factor L: 1 on the diagonal, 0 above it, and nowhere more than 1 in magnitude
  pub lower_small : ((k : ℕ) → k < n → Regular n a k) → (i j : ℕ) → i < n → j < n → le (abs (lower n (eliminated n a n) i j)) 𝟏 ≡ true
  unfolding le lt eq abs of_bits
  lower_small h i j hi hj =
      by (ltb j i)
      (λ t. rw t (multipliers_small n (omega arith) h i j hj (ltb-true j i t) hi))
      (λ t. rw t (by (eqb j i) (λ u. rw u) (λ u. rw u)))
