-- Two zeros without a minus sign are one value: so where a maximum or a minimum of two zeros may be either, and neither is negative, it is one value.
-- Which operations give no minus sign. Assumes nothing.
use mathlib.Core.Path.{◌≡◌, refl, sym, ap, ◌∙◌}
use Prim.Native.Nat.{ℕ, zero, suc, ◌+◌, ◌*◌, ◌^◌}
use mathlib.Core.Bool.{Bool, true, false, cond, true≢false}
use lib.Dec.{T, eqb, ltb}
use lib.Ieee.{Float, nan, inf, fin, Format, binary64, prec, emax, low, up, down, is_nan, lt, le, eq, fits, odd, units, round, mul, unlike, of_bits}
use Rattle.float.specs.Operators.{◌⊗◌, 𝟎}
use Rattle.float.specs.Methods.{abs, max_num}
use Rattle.float.proofs.Cases.{never, or_yes, or_yes_right}
use Rattle.float.proofs.Laws.{abs_zero, lt_minus, eq_zero}

-- has a minus sign, a zero's too
abbrev pub negative : Float → Bool
negative nan = false
negative (inf s) = s
negative (fin s m e) = s

abs_own : (x : Float) → negative x ≡ false → abs x ≡ x
unfolding abs
abs_own nan h = refl
abs_own (inf s) h = ap inf (sym h)
abs_own (fin s m e) h = ap (λ (t : Bool). fin t m e) (sym h)

pub zeros_same : (x y : Float) → T (fits binary64 x) → T (fits binary64 y) → negative x ≡ false → negative y ≡ false → eq x 𝟎 ≡ true → eq y 𝟎 ≡ true → x ≡ y
zeros_same x y f g n m h k = sym (abs_own x n) ∙ sym (abs_zero x f h) ∙ abs_zero y g k ∙ abs_own y m

pub abs_plain : (x : Float) → negative (abs x) ≡ false
unfolding abs
abs_plain nan = refl
abs_plain (inf s) = refl
abs_plain (fin s m e) = refl

pub above_plain : (x : Float) → le x 𝟎 ≡ false → negative x ≡ false
unfolding le
above_plain nan h = refl
above_plain (inf true) h = unfold lt of_bits in absurd (true≢false h)
above_plain (inf false) h = refl
above_plain (fin true zero e) h = never (or_yes_right (lt (fin true 0 e) 𝟎) (eq_zero true e)) h
above_plain (fin true (suc m) e) h = never (or_yes (eq (fin true (suc m) e) 𝟎) (lt_minus m e)) h
above_plain (fin false m e) h = refl

either : (b : Bool) (x y : Float) → negative x ≡ false → negative y ≡ false → negative (cond b x y) ≡ false
either true x y h k = h
either false x y h k = k

pub max_plain : (x y : Float) → negative x ≡ false → negative y ≡ false → negative (max_num x y) ≡ false
max_plain x y h k = either (is_nan x) y (cond (lt x y) y x) k (either (lt x y) y x k h)

-- a rounded fraction has the sign that it is given
odd_sign : (d : ℕ) (s : Bool) (q k l : ℕ) → negative (odd d s q k l) ≡ s
unfolding odd
odd_sign d s zero k l = refl
odd_sign d s (suc q) k l = refl

units_sign : (f : Format) (s : Bool) (q k : ℕ) → negative (units f s q k) ≡ s
unfolding units
units_sign f s q k = go (ltb (q * 2 ^ k) (2 ^ (low f + suc (emax f))))
  where
    go : (b : Bool) → negative (cond b (odd (suc (prec f)) s q k (low f)) (inf s)) ≡ s
    go true = odd_sign (suc (prec f)) s q k (low f)
    go false = refl

pub round_sign : (f : Format) (s : Bool) (a b : ℕ) → negative (round f s a b) ≡ s
unfolding round
round_sign f s a b = units_sign f s _ _

nan_or : (b : Bool) (s : Bool) → s ≡ false → negative (cond b nan (inf s)) ≡ false
nan_or true s h = refl
nan_or false s h = h

plain_like : (s t : Bool) → s ≡ false → t ≡ false → unlike s t ≡ false
plain_like false false h k = refl
plain_like true t h k = absurd (true≢false h)
plain_like false true h k = absurd (true≢false k)

pub mul_plain : (x y : Float) → negative x ≡ false → negative y ≡ false → negative (x ⊗ y) ≡ false
unfolding mul
mul_plain nan y h k = refl
mul_plain (inf s) nan h k = refl
mul_plain (inf s) (inf t) h k = plain_like s t h k
mul_plain (inf s) (fin t n d) h k = nan_or (eqb n 0) (unlike s t) (plain_like s t h k)
mul_plain (fin s m e) nan h k = refl
mul_plain (fin s m e) (inf t) h k = nan_or (eqb m 0) (unlike s t) (plain_like s t h k)
mul_plain (fin s m e) (fin t n d) h k = round_sign binary64 (unlike s t) (m * up e * (n * up d)) (down e * down d) ∙ plain_like s t h k
