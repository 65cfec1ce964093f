-- `0.0 - x` is the negative of x, and +0 at both zeros; it lies below x where x is above 0. Assumes nothing.
use mathlib.Core.Path.{◌≡◌, refl, sym, ap, ◌∙◌, subst}
use Prim.Native.Nat.{ℕ, zero, suc, ◌+◌, ◌-◌, ◌*◌, ◌<◌}
use native.Mathlib.Nat.{zero-mul, mul-one, one-mul, mul-pos, zero-add, zero-lt-suc}
use native.Mathlib.Omega.{arith}
use mathlib.Core.Bool.{Bool, true, false, not, ◌&&◌, cond, true≢false, false≢true}
use lib.IntN.{ℤ, pos}
use lib.Dec.{T, ltb, lt→ltb}
use lib.Ieee.{Float, nan, inf, fin, binary64, up, down, round, sum, fits, lt, add, sub, neg, of_bits}
use lib.Ieee.Fits.{down_pos, up_pos}
use lib.Ieee.Bits.{is_true}
use Rattle.float.specs.Operators.{◌⊖◌, 𝟎}
use Rattle.float.specs.Methods.{abs}
use Rattle.float.proofs.Cases.{never}
use Rattle.float.proofs.Laws.{round_zero, zero_exp, some}
use Rattle.float.proofs.Own.{round_own}

unsigned : (s t : Bool) (m : ℕ) (e : ℤ) → T (fits binary64 (fin s m e)) → T (fits binary64 (fin t m e))
unfolding fits
unsigned s t zero e f = f
unsigned s t (suc m) e f = f

-- 0 + b / c, and 0 - b / c, for a = 0 written as a product
plus_nothing : (t : Bool) (a b c : ℕ) → a ≡ 0 → 0 < b → sum binary64 false a t b c ≡ round binary64 t b c
unfolding sum
plus_nothing false a b c z h = ap (λ (k : ℕ). round binary64 false (k + b) c) z ∙ ap (λ (k : ℕ). round binary64 false k c) (zero-add b)
plus_nothing true a b c z h =
    ap (λ (u : Bool). cond u (round binary64 true (b - a) c) (round binary64 (false && ltb b a) (a - b) c)) (is_true (ltb a b) (lt→ltb a b (low a b z h)))
    ∙ ap (λ (k : ℕ). round binary64 true k c) (all a b z)
  where
    low : (a b : ℕ) → a ≡ 0 → 0 < b → a < b
    low a b z h = omega arith

    all : (a b : ℕ) → a ≡ 0 → b - a ≡ b
    all a b z = omega arith

both_nothing : (t : Bool) (a b c : ℕ) → a ≡ 0 → b ≡ 0 → 0 < c → sum binary64 false a t b c ≡ fin false 0 (pos 0)
unfolding sum
both_nothing false a b c z w h = ap (λ (k : ℕ). round binary64 false k c) (none a b z w) ∙ round_zero binary64 false c h
  where
    none : (a b : ℕ) → a ≡ 0 → b ≡ 0 → a + b ≡ 0
    none a b z w = omega arith
both_nothing true a b c z w h =
    ap (λ (k : ℕ). cond (ltb k b) (round binary64 true (b - k) c) (round binary64 (false && ltb b k) (k - b) c)) z
    ∙ ap (λ (k : ℕ). cond (ltb 0 k) (round binary64 true (k - 0) c) (round binary64 (false && ltb k 0) (0 - k) c)) w
    ∙ round_zero binary64 false c h

module _ (s : Bool) (d : ℤ) where
  pub minus_zero : 𝟎 ⊖ fin s 0 d ≡ fin false 0 (pos 0)
  unfolding sub add neg of_bits
  minus_zero = both_nothing (not s) (0 * 1 * down d) (0 * up d * 1) (1 * down d) (zero-mul (down d)) (mul-one (0 * up d) ∙ zero-mul (up d)) (subst (λ (k : ℕ). 0 < k) (sym (one-mul (down d))) (down_pos d))

  pub minus_some : (m : ℕ) → T (fits binary64 (fin s (suc m) d)) → 𝟎 ⊖ fin s (suc m) d ≡ fin (not s) (suc m) d
  unfolding sub add neg of_bits
  minus_some m f =
      plus_nothing (not s) (0 * 1 * down d) (suc m * up d * 1) (1 * down d) (zero-mul (down d)) (some m d)
      ∙ round_own (not s) (suc m) d (suc m * up d * 1) (1 * down d) (unsigned s (not s) (suc m) d f)
      (subst (λ (k : ℕ). 0 < k) (sym (one-mul (down d))) (down_pos d))
      (ap (λ (k : ℕ). suc m * up d * k) (one-mul (down d)) ∙ ap (λ (k : ℕ). k * down d) (sym (mul-one (suc m * up d))))

-- the sign of the comparison
below_plus : (m : ℕ) (d : ℤ) → lt (fin true (suc m) d) (fin false (suc m) d) ≡ true
unfolding lt
below_plus m d =
    let a = suc m * up d * down d in
    is_true (ltb 0 (a + a)) (lt→ltb 0 (a + a) (twice a (mul-pos (mul-pos (zero-lt-suc m) (up_pos d)) (down_pos d))))
  where
    twice : (a : ℕ) → 0 < a → 0 < a + a
    twice a h = omega arith

above_minus : (m : ℕ) (d : ℤ) → lt (fin false (suc m) d) (fin true (suc m) d) ≡ false
unfolding lt
above_minus m d = refl

zero_not_below : (s : Bool) (d : ℤ) → lt (fin false 0 (pos 0)) (fin s 0 d) ≡ false
unfolding lt
zero_not_below true d = refl
zero_not_below false d = ap (λ (k : ℕ). ltb k (0 * up d * 1)) (zero-mul (down d)) ∙ ap (λ (k : ℕ). ltb 0 (k * 1)) (zero-mul (up d))

-- ---- abs
pub abs_above : (x : Float) → T (fits binary64 x) → lt (𝟎 ⊖ x) x ≡ true → x ≡ abs x
unfolding abs
abs_above nan f h = refl
abs_above (inf true) f h = unfold sub add neg lt of_bits in absurd (false≢true h)
abs_above (inf false) f h = refl
abs_above (fin s zero d) f h = never (sym (ap (λ (y : Float). lt y (fin s 0 d)) (minus_zero s d)) ∙ h) (zero_not_below s d)
abs_above (fin true (suc m) d) f h = never (sym (ap (λ (y : Float). lt y (fin true (suc m) d)) (minus_some true d m f)) ∙ h) (above_minus m d)
abs_above (fin false (suc m) d) f h = refl

pub abs_below : (x : Float) → T (fits binary64 x) → lt (𝟎 ⊖ x) x ≡ false → 𝟎 ⊖ x ≡ abs x
unfolding abs
abs_below nan f h = unfold sub add neg of_bits in refl
abs_below (inf true) f h = unfold sub add neg of_bits in refl
abs_below (inf false) f h = unfold sub add neg lt of_bits in absurd (true≢false h)
abs_below (fin s zero d) f h = minus_zero s d ∙ ap (λ (z : ℤ). fin false 0 z) (sym (zero_exp binary64 s d f))
abs_below (fin true (suc m) d) f h = minus_some true d m f
abs_below (fin false (suc m) d) f h = never (below_plus m d) (sym (ap (λ (y : Float). lt y (fin false (suc m) d)) (minus_some false d m f)) ∙ h)
