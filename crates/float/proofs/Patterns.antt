-- The bit patterns of binary64 without a sign, below that of the infinity: what each stands for, and those of the positive finite values.
-- Which are a finite value's. Assumes nothing.
use mathlib.Core.Path.{◌≡◌, refl, sym, ap, ◌∙◌, subst}
use Prim.Native.Nat.{ℕ, zero, suc, ◌+◌, ◌-◌, ◌*◌, ◌/◌, ◌%◌, ◌^◌, ◌≤◌, ◌<◌}
use native.Mathlib.Nat.{not-le_of_lt, lt_of_not-le, lt_of_lt_of_le, le_of_eq, mod-eq_of_lt, mul_right_comm, mul-lt-mul_of_pos_right, div-lt_iff_lt-mul, pos_of_ne-zero, suc-ne-zero}
use native.Mathlib.Omega.{arith}
use native.Mathlib.Decide.{dec_le}
use mathlib.Core.Bool.{Bool, true, false, not, cond}
use lib.IntN.{ℤ}
use lib.Dec.{T, leb, eqb, ltb, leb→le, ltb→lt, eqb→eq, not_T}
use lib.Pow.{pow_pos}
use lib.Ieee.{Float, nan, inf, fin, binary64, up, down, size, odd, fits, of_fields, of_bits, to_bits, nan_bits}
use lib.Ieee.Scale.{finite}
use lib.Ieee.Fits.{down_pos, kept-lt}
use borrow.Author.Tests.{eqb-true, eqb-false, lt-ltb, le-ltb, ltb-true, ltb-false}
use Rattle.float.proofs.Cases.{by}
use lib.Ieee.Digits.{Equals, odd_val, size-le}
use lib.Ieee.Bits.{is_false, cond_no, nan_bits_above, of_bits-to_bits}
use Rattle.float.proofs.Own.{fit}

of_bits_is : (b : ℕ) → of_bits binary64 b ≡ of_fields binary64 (leb (2 ^ 63) b) (b % 2 ^ 63 / 2 ^ 52) (b % 2 ^ 52)
unfolding of_bits
of_bits_is b = refl

-- a pattern without its sign
plus : (b : ℕ) → b < 2 ^ 63 → of_bits binary64 b ≡ of_fields binary64 false (b / 2 ^ 52) (b % 2 ^ 52)
plus b h =
    of_bits_is b
    ∙ ap (λ (s : Bool). of_fields binary64 s (b % 2 ^ 63 / 2 ^ 52) (b % 2 ^ 52)) (is_false (leb (2 ^ 63) b) (not_T (leb (2 ^ 63) b) (λ u. not-le_of_lt h (leb→le (2 ^ 63) b u))))
    ∙ ap (λ (x : ℕ). of_fields binary64 false (x / 2 ^ 52) (b % 2 ^ 52)) (mod-eq_of_lt h)

under_ones : (t x : ℕ) → x < 2046 → of_fields binary64 false (suc x) t ≡ odd 53 false (2 ^ 52 + t) x 1074
unfolding of_fields
under_ones t x h = cond_no (eqb (suc x) 2047) (cond (eqb t 0) (inf false) nan) (odd 53 false (2 ^ 52 + t) x 1074) (not_T (eqb (suc x) 2047) (λ u. differ x h (eqb→eq (suc x) 2047 u)))
  where
    differ : (x : ℕ) → x < 2046 → suc x ≡ 2047 → ⊥
    differ x h e = omega arith

pub normal : (k y : ℕ) → k < 2046 → 2 ^ 52 ≤ y → y < 2 ^ 53 → of_bits binary64 (k * 2 ^ 52 + y) ≡ odd 53 false y k 1074
normal k y h lo hi =
    let b = k * 2 ^ 52 + y in
    let l : b < 2 ^ 63 = omega arith in
    let f : b / 2 ^ 52 ≡ suc k = omega arith in
    let t : 2 ^ 52 + b % 2 ^ 52 ≡ y = omega arith in
    plus b l ∙ ap (λ (x : ℕ). of_fields binary64 false x (b % 2 ^ 52)) f ∙ under_ones (b % 2 ^ 52) k h ∙ ap (λ (x : ℕ). odd 53 false x k 1074) t

at_zero : (t : ℕ) → of_fields binary64 false 0 t ≡ odd 53 false t 0 1074
unfolding of_fields
at_zero t = refl

pub subnormal : (b : ℕ) → b < 2 ^ 52 → of_bits binary64 b ≡ odd 53 false b 0 1074
subnormal b h =
    let l : b < 2 ^ 63 = omega arith in
    let f : b / 2 ^ 52 ≡ 0 = omega arith in
    plus b l ∙ ap (λ (x : ℕ). of_fields binary64 false x (b % 2 ^ 52)) f ∙ at_zero (b % 2 ^ 52) ∙ ap (λ (x : ℕ). odd 53 false x 0 1074) (mod-eq_of_lt h)

pub no_nan : (b : ℕ) → b < 0x7ff0_0000_0000_0000 → T (not (nan_bits binary64 b))
no_nan b h = subst (λ (t : Bool). T (not t)) (sym (nan_bits_above binary64 b)) (not_T (ltb 0x7ff0_0000_0000_0000 (b % 2 ^ 63)) (λ u. clash (ltb→lt 0x7ff0_0000_0000_0000 (b % 2 ^ 63) u)))
  where
    clash : 0x7ff0_0000_0000_0000 < b % 2 ^ 63 → ⊥
    clash k = omega arith

-- ---- the pattern of a positive finite value
digits : Float → ℕ
digits nan = 0
digits (inf s) = 0
digits (fin s m d) = m

module _ (m : ℕ) (d : ℤ) (f : T (fits binary64 (fin false (suc m) d))) where
  pub pattern_pos : 0 < to_bits binary64 (fin false (suc m) d)
  unfolding of_bits digits
  pattern_pos = pos_of_ne-zero (λ z. suc-ne-zero m (sym (ap digits (ap (of_bits binary64) (sym z) ∙ of_bits-to_bits binary64 (fin false (suc m) d) f))))

  pub pattern_lt : to_bits binary64 (fin false (suc m) d) < 0x7ff0_0000_0000_0000
  unfolding to_bits
  pattern_lt =
      let n = suc m * up d * 2 ^ 1074 / down d in
      let n-lt : n < 2 ^ 2098 = (div-lt_iff_lt-mul (down_pos d)).1 (lt_of_lt_of_le (mul-lt-mul_of_pos_right (fit false m d f).under (pow_pos 1074)) (le_of_eq (mul_right_comm (2 ^ 1024) (down d) (2 ^ 1074)))) in
      let k-le : size n - 53 ≤ 2045 = under (size n) (size-le n 2098 n-lt) in
      let q-lt : n / 2 ^ (size n - 53) < 2 ^ 53 = kept-lt 53 n in
      omega arith
    where
      under : (z : ℕ) → z ≤ 2098 → z - 53 ≤ 2045
      under z h = omega arith

  module _ (b : ℕ) (e : to_bits binary64 (fin false (suc m) d) ≡ b) where
    pub of_subnormal : b < 2 ^ 52 → fin false (suc m) d ≡ odd 53 false b 0 1074
    of_subnormal h = sym (of_bits-to_bits binary64 (fin false (suc m) d) f) ∙ ap (of_bits binary64) e ∙ subnormal b h

    pub of_normal : 2 ^ 52 ≤ b → b < 0x7ff0_0000_0000_0000 → fin false (suc m) d ≡ odd 53 false (b % 2 ^ 52 + 2 ^ 52) (b / 2 ^ 52 - 1) 1074
    of_normal h l =
        let q = b % 2 ^ 52 + 2 ^ 52 in
        let k = b / 2 ^ 52 - 1 in
        let s : b ≡ k * 2 ^ 52 + q = omega arith in
        sym (of_bits-to_bits binary64 (fin false (suc m) d) f) ∙ ap (of_bits binary64) (e ∙ s) ∙ normal k q (omega arith) (omega arith) (omega arith)

-- its digits: q * 2 ^ k units of 2 ^ -1074, with q of at most 53 digits
pub record Digits (m : ℕ) (d : ℤ) : Type 0 where
  pub q : ℕ
  pub k : ℕ
  pub some : 0 < q
  pub few : q < 2 ^ 53
  pub low : k < 2046
  pub is : fin false (suc m) d ≡ odd 53 false q k 1074

pub digits_of : (m : ℕ) (d : ℤ) → T (fits binary64 (fin false (suc m) d)) → Digits m d
digits_of m d f = go (to_bits binary64 (fin false (suc m) d)) refl (pattern_pos m d f) (pattern_lt m d f) (dec_le (2 ^ 52) (to_bits binary64 (fin false (suc m) d)))
  where
    go : (b : ℕ) → to_bits binary64 (fin false (suc m) d) ≡ b → 0 < b → b < 0x7ff0_0000_0000_0000 → Dec (2 ^ 52 ≤ b) → Digits m d
    go b e p l (yes h) = record { q = b % 2 ^ 52 + 2 ^ 52; k = b / 2 ^ 52 - 1; some = omega arith; few = omega arith; low = omega arith; is = of_normal m d f b e h l }
    go b e p l (no n) = let h = lt_of_not-le n in record { q = b; k = 0; some = p; few = omega arith; low = omega arith; is = of_subnormal m d f b e h }

pub units_val : (m : ℕ) (d : ℤ) (q k : ℕ) → fin false m d ≡ odd 53 false q k 1074 → m * up d * 2 ^ 1074 ≡ q * 2 ^ k * down d
units_val m d q k e = subst (λ (y : Float). Equals y (q * 2 ^ k) (2 ^ 1074)) (sym e) (odd_val 53 false q k 1074)

-- ---- finite patterns: the exponent's field is not all ones
odd-finite : (d : ℕ) (s : Bool) (q k l : ℕ) → finite (odd d s q k l) ≡ true
unfolding odd
odd-finite d s zero k l = refl
odd-finite d s (suc q) k l = refl

ones_not : (s b : Bool) → finite (cond b (inf s) nan) ≡ false
ones_not s true = refl
ones_not s false = refl

fields_finite : (s : Bool) (x t : ℕ) → x < 2048 → finite (of_fields binary64 s x t) ≡ ltb x 2047
unfolding of_fields
fields_finite s zero t h = odd-finite 53 s t 0 1074
fields_finite s (suc x) t h =
    by (eqb (suc x) 2047)
    (λ e. rw e (ones_not s (eqb t 0) ∙ sym (le-ltb (suc x) 2047 (omega (arith, eqb-true (suc x) 2047 e)))))
    (λ e. rw e (odd-finite 53 s (0x10_0000_0000_0000 + t) x 1074 ∙ sym (lt-ltb (suc x) 2047 (omega (arith, eqb-false (suc x) 2047 e)))))

below : (y : ℕ) → ltb (y / 0x10_0000_0000_0000) 2047 ≡ ltb y 0x7ff0_0000_0000_0000
below y =
    by (ltb y 0x7ff0_0000_0000_0000)
    (λ e. rw e (lt-ltb (y / 0x10_0000_0000_0000) 2047 (omega (arith, ltb-true y 0x7ff0_0000_0000_0000 e))))
    (λ e. rw e (le-ltb (y / 0x10_0000_0000_0000) 2047 (omega (arith, ltb-false y 0x7ff0_0000_0000_0000 e))))

pub finite_bits : (b : ℕ) → finite (of_bits binary64 b) ≡ ltb (b % 0x8000_0000_0000_0000) 0x7ff0_0000_0000_0000
unfolding of_bits
finite_bits b =
    fields_finite (leb 0x8000_0000_0000_0000 b) (b % 0x8000_0000_0000_0000 / 0x10_0000_0000_0000) (b % 0x10_0000_0000_0000) (omega arith)
    ∙ below (b % 0x8000_0000_0000_0000)
