-- The scale of a matrix is no NaN: so each maximum that makes it is one comparison. It has no minus sign: so where Rust may choose the sign of a maximum of
-- two zeros, both are +0; and it is at most 0 only as 0. Assumes nothing.
use Prim.Native.Nat.{ℕ, zero, suc, ◌≤◌}
use native.Mathlib.Omega.{arith}
use native.Mathlib.Numerals.{add-one}
use mathlib.Core.Path.{◌≡◌, refl, sym, ap, ◌∙◌}
use mathlib.Core.Bool.{true, false, cond, true≢false, false≢true}
use mathlib.Core.List.{List}
use lib.ListN.{length, take}
use lib.Seq.{take_all}
use lib.Ieee.{Float, nan, inf, fin, is_nan, lt, le, eq, of_bits}
use Rattle.std.specs.List.{fold}
use Rattle.std.proofs.lemmas.List.Sums.{fold_more}
use Rattle.float.specs.Operators.{𝟎}
use Rattle.float.specs.Methods.{abs, max_num}
use Rattle.float.proofs.Cases.{by}
use Rattle.float.proofs.Laws.{lt_plus}
use Rattle.float.proofs.Zeros.{negative, abs_plain, max_plain}
use Rattle.vector.specs.Lists.{el}
use Rattle.linear.specs.Elimination.{largest, scale}

-- nothing lies below a NaN
above_some : (x y : Float) → lt x y ≡ true → is_nan y ≡ false
unfolding lt is_nan
above_some nan nan h = absurd (false≢true h)
above_some (inf s) nan h = absurd (false≢true h)
above_some (fin s m e) nan h = absurd (false≢true h)
above_some x (inf t) h = refl
above_some x (fin t n d) h = refl

-- a maximum with a number
max_number : (x y : Float) → is_nan x ≡ false → max_num x y ≡ cond (lt x y) y x
max_number x y h = rw h

max_some : (x y : Float) → is_nan x ≡ false → is_nan (max_num x y) ≡ false
max_some x y h = ap is_nan (max_number x y h) ∙ (by (lt x y) (λ t. rw t (above_some x y t)) (λ t. rw t h))

pub scale_some : (a : List Float) (k : ℕ) → is_nan (largest a k) ≡ false
unfolding largest is_nan of_bits
scale_some a zero = refl
scale_some a (suc k) = max_some (largest a k) (abs (el a k)) (scale_some a k)

-- gathered from the left, one comparison at each element
gathered : (a : List Float) (k : ℕ) → k ≤ length a → fold (λ m x. cond (lt m (abs x)) (abs x) m) 𝟎 (take k a) ≡ largest a k
unfolding largest
gathered a zero h = refl
gathered a (suc k) h =
    ap (λ (j : ℕ). fold (λ m x. cond (lt m (abs x)) (abs x) m) 𝟎 (take j a)) (sym (add-one k))
    ∙ fold_more (λ m x. cond (lt m (abs x)) (abs x) m) 𝟎 a k nan (omega arith)
    ∙ ap (λ (m : Float). cond (lt m (abs (el a k))) (abs (el a k)) m) (gathered a k (omega arith))
    ∙ sym (max_number (largest a k) (abs (el a k)) (scale_some a k))

pub scale_gathered : (a : List Float) → fold (λ m x. cond (lt m (abs x)) (abs x) m) 𝟎 a ≡ scale a
unfolding scale
scale_gathered a =
    ap (fold (λ m x. cond (lt m (abs x)) (abs x) m) 𝟎) (sym (take_all (length a) a (omega arith))) ∙ gathered a (length a) (omega arith)

-- ---- no minus sign
pub scale_plain : (a : List Float) (k : ℕ) → negative (largest a k) ≡ false
unfolding largest of_bits
scale_plain a zero = refl
scale_plain a (suc k) = max_plain (largest a k) (abs (el a k)) (scale_plain a k) (abs_plain (el a k))

plain_not_below : (x : Float) → negative x ≡ false → lt x 𝟎 ≡ false
unfolding lt of_bits
plain_not_below nan h = refl
plain_not_below (inf s) h = h
plain_not_below (fin true m e) h = absurd (true≢false h)
plain_not_below (fin false m e) h = lt_plus m e

pub scale_zero : (a : List Float) → le (scale a) 𝟎 ≡ eq (scale a) 𝟎
unfolding le scale
scale_zero a = rw (plain_not_below (largest a (length a)) (scale_plain a (length a)))
