-- A whole number below 2 ^ 64 as a double, rounded once, from its two halves of 32 digits. Assumes nothing.
use mathlib.Core.Path.{◌≡◌, refl, sym, ap, ◌∙◌}
use mathlib.Core.Bool.{true, false, true≢false}
use Prim.Native.Nat.{ℕ, ◌+◌, ◌*◌, ◌/◌, ◌%◌, ◌^◌, ◌≤◌, ◌<◌}
use native.Mathlib.Nat.{lt_trans, lt_of_lt_of_le, le_of_eq, zero-lt-suc, mul-one, one-mul, mul_assoc, mul_right_comm, add-mul, mul-pos, mul-lt-mul_of_pos_right, div-add-mod'}
use native.Mathlib.Omega.{arith}
use lib.IntN.{pos}
use lib.Pow.{pow-add, pow_pos, pow-lt}
use lib.Ieee.{Float, nan, inf, fin, binary64, up, down, round, of_bits, of_int, add, mul, sum}
use lib.Ieee.Fits.{down_pos}
use lib.Ieee.Exact.{HasValue, round_exact}
use lib.Ieee.Scale.{round_same}

-- q * 2 ^ j for a q below 2 ^ 32 and a j up to 32 is exact
exact : (a q j : ℕ) → q < 2 ^ 32 → j ≤ 32 → a ≡ q * 2 ^ j → HasValue (round binary64 false a 1) false a 1
exact a q j h k e =
    round_exact binary64 false a 1 q (j + 1074) (zero-lt-suc 0) (lt_trans h (pow-lt (short j k)))
    (lt_trans (lt_of_lt_of_le (mul-lt-mul_of_pos_right h (pow_pos (j + 1074))) (le_of_eq (sym (pow-add 2 32 (j + 1074))))) (pow-lt (low j k)))
    (ap (λ (x : ℕ). x * 2 ^ 1074) e ∙ mul_assoc q (2 ^ j) (2 ^ 1074) ∙ ap (λ (x : ℕ). q * x) (sym (pow-add 2 j 1074)) ∙ sym (mul-one (q * 2 ^ (j + 1074))))
  where
    short : (j : ℕ) → j ≤ 32 → 32 < 53
    short j k = omega arith

    low : (j : ℕ) → j ≤ 32 → 32 + (j + 1074) < 2098
    low j k = omega arith

times_alg : (x a d w : ℕ) → x * 1 ≡ a * d → x * (1 * w) * 1 ≡ a * w * (d * 1)
times_alg x a d w h = mul-one (x * (1 * w)) ∙ ap (λ (z : ℕ). x * z) (one-mul w) ∙ ap (λ (z : ℕ). z * w) (sym (mul-one x) ∙ h) ∙ mul_right_comm a d w ∙ ap (λ (z : ℕ). a * w * z) (sym (mul-one d))

times : (x : Float) (a : ℕ) → HasValue x false a 1 → mul binary64 x (of_bits binary64 0x41f0_0000_0000_0000) ≡ round binary64 false (a * 2 ^ 32) 1
unfolding mul of_bits
times nan a v = absurd v
times (inf t) a v = absurd v
times (fin true m e) a v = absurd (true≢false v.0)
times (fin false m e) a v =
    round_same binary64 false (m * up e * (1 * 2 ^ 32)) (down e * 1) (a * 2 ^ 32) 1 (mul-pos (down_pos e) (zero-lt-suc 0)) (zero-lt-suc 0)
    (times_alg (m * up e) a (down e) (2 ^ 32) v.1)

sums_alg : (x y b l d e : ℕ) → x * 1 ≡ b * d → y * 1 ≡ l * e → (x * e + y * d) * 1 ≡ (b + l) * (d * e)
sums_alg x y b l d e h k =
    mul-one (x * e + y * d)
    ∙ ap (λ (z : ℕ). z * e + y * d) (sym (mul-one x) ∙ h)
    ∙ ap (λ (z : ℕ). b * d * e + z * d) (sym (mul-one y) ∙ k)
    ∙ ap (λ (z : ℕ). z + l * e * d) (mul_assoc b d e)
    ∙ ap (λ (z : ℕ). b * (d * e) + z) (mul_right_comm l e d ∙ mul_assoc l d e)
    ∙ sym (add-mul b l (d * e))

sums : (y z : Float) (b l : ℕ) → HasValue y false b 1 → HasValue z false l 1 → add binary64 y z ≡ round binary64 false (b + l) 1
unfolding add sum
sums nan z b l v w = absurd v
sums (inf t) z b l v w = absurd v
sums (fin true m e) z b l v w = absurd (true≢false v.0)
sums (fin false m e) nan b l v w = absurd w
sums (fin false m e) (inf t) b l v w = absurd w
sums (fin false m e) (fin true n d) b l v w = absurd (true≢false w.0)
sums (fin false m e) (fin false n d) b l v w =
    round_same binary64 false (m * up e * down d + n * up d * down e) (down e * down d) (b + l) 1 (mul-pos (down_pos e) (down_pos d)) (zero-lt-suc 0)
    (sums_alg (m * up e) (n * up d) b l (down e) (down d) v.1 w.1)

pub halves : (n : ℕ) → n < 18446744073709551616
    → add binary64 (mul binary64 (of_int binary64 (pos (n / 4294967296))) (of_bits binary64 0x41f0_0000_0000_0000)) (of_int binary64 (pos (n % 4294967296))) ≡ of_int binary64 (pos n)
unfolding of_int
halves n h =
    let H : n / 4294967296 < 2 ^ 32 = omega arith in
    let L : n % 4294967296 < 2 ^ 32 = omega arith in
    let p = exact (n / 4294967296) (n / 4294967296) 0 H (omega arith) (sym (mul-one (n / 4294967296))) in
    let q = exact (n / 4294967296 * 2 ^ 32) (n / 4294967296) 32 H (omega arith) refl in
    let r = exact (n % 4294967296) (n % 4294967296) 0 L (omega arith) (sym (mul-one (n % 4294967296))) in
    ap (λ (x : Float). add binary64 x (round binary64 false (n % 4294967296) 1)) (times (round binary64 false (n / 4294967296) 1) (n / 4294967296) p)
    ∙ sums (round binary64 false (n / 4294967296 * 2 ^ 32) 1) (round binary64 false (n % 4294967296) 1) (n / 4294967296 * 2 ^ 32) (n % 4294967296) q r
    ∙ ap (λ (x : ℕ). round binary64 false x 1) (div-add-mod' n 4294967296)
