-- Magnitudes: their order, and the magnitude of a quotient. Laws of floats that know nothing of matrices. Assumes nothing.
use mathlib.Core.Path.{◌≡◌, refl, sym, ap, ◌∙◌}
use Prim.Native.Nat.{ℕ, zero, suc, ◌+◌, ◌*◌, ◌^◌, ◌<◌, ◌≤◌}
use native.Mathlib.Nat.{mul-pos, zero-lt-suc}
use native.Mathlib.Omega.{arith}
use mathlib.Core.Bool.{Bool, true, false, cond, false≢true}
use lib.IntN.{ℤ}
use lib.Dec.{ltb}
use lib.Ieee.{Float, nan, inf, fin, Format, binary64, prec, emax, low, up, down, unlike, lt, le, eq, div, odd, units, round, of_bits}
use lib.Ieee.Scale.{finite}
use lib.Ieee.Fits.{up_pos, down_pos}
use lib.Ieee.Bits.{is_true}
use lib.Ieee.Order.{round_mono}
use lib.Ieee.Positive.{through}
use borrow.Author.Tests.{ltb-false, le-ltb, ne_eqb}
use Rattle.float.specs.Operators.{◌⊘◌, 𝟎, 𝟏}
use Rattle.float.specs.Methods.{abs}
use Rattle.float.proofs.Cases.{never}
use Rattle.float.proofs.Laws.{eq_zero}

-- ---- order
even : (a : ℕ) → ltb a a ≡ false
even a = le-ltb a a (omega arith)

pub lt_self : (x : Float) → lt x x ≡ false
unfolding lt
lt_self nan = refl
lt_self (inf true) = refl
lt_self (inf false) = refl
lt_self (fin true m e) = even (m * up e * down e)
lt_self (fin false m e) = even (m * up e * down e)

-- |z| ≤ |y| ≤ |x|
pub magnitudes_through : (x y z : Float) → finite x ≡ true → finite y ≡ true → finite z ≡ true
    → lt (abs x) (abs y) ≡ false → lt (abs y) (abs z) ≡ false → lt (abs x) (abs z) ≡ false
unfolding abs lt
magnitudes_through nan y z f g h k l = absurd (false≢true f)
magnitudes_through (inf s) y z f g h k l = absurd (false≢true f)
magnitudes_through (fin s m e) nan z f g h k l = absurd (false≢true g)
magnitudes_through (fin s m e) (inf t) z f g h k l = absurd (false≢true g)
magnitudes_through (fin s m e) (fin t n d) nan f g h k l = absurd (false≢true h)
magnitudes_through (fin s m e) (fin t n d) (inf u) f g h k l = absurd (false≢true h)
magnitudes_through (fin s m e) (fin t n d) (fin u q c) f g h k l =
    le-ltb (m * up e * down c) (q * up c * down e)
    (through (q * up c) (n * up d) (m * up e) (down c) (down d) (down e) (down_pos d) (ltb-false (n * up d * down c) (q * up c * down d) l) (ltb-false (m * up e * down d) (n * up d * down e) k))

-- ---- a rounded fraction without its sign
abs-odd : (d : ℕ) (s : Bool) (q k l : ℕ) → abs (odd d s q k l) ≡ odd d false q k l
unfolding odd abs
abs-odd d s zero k l = refl
abs-odd d s (suc q) k l = refl

abs-units : (f : Format) (s : Bool) (q k : ℕ) → abs (units f s q k) ≡ units f false q k
unfolding units
abs-units f s q k = go (ltb (q * 2 ^ k) (2 ^ (low f + suc (emax f))))
  where
    go : (b : Bool) → abs (cond b (odd (suc (prec f)) s q k (low f)) (inf s)) ≡ cond b (odd (suc (prec f)) false q k (low f)) (inf false)
    go true = abs-odd (suc (prec f)) s q k (low f)
    go false = unfold abs in refl

pub abs-round : (f : Format) (s : Bool) (a b : ℕ) → abs (round f s a b) ≡ round f false a b
unfolding round
abs-round f s a b = abs-units f s _ _

one_is : round binary64 false 1 1 ≡ 𝟏
unfolding round of_bits
one_is = refl

-- a fraction that is at most 1
small_fraction : (s : Bool) (a b : ℕ) → 0 < b → a ≤ b → le (abs (round binary64 s a b)) 𝟏 ≡ true
small_fraction s a b B h =
    ap (λ (x : Float). le x 𝟏) (abs-round binary64 s a b)
    ∙ ap (le (round binary64 false a b)) (sym one_is)
    ∙ is_true (le (round binary64 false a b) (round binary64 false 1 1)) (round_mono binary64 a b 1 1 B (zero-lt-suc 0) (sides a b h))
  where
    sides : (a b : ℕ) → a ≤ b → a * 1 ≤ 1 * b
    sides a b h = omega arith

quotient_is : (s t : Bool) (m n : ℕ) (e d : ℤ) → fin s m e ⊘ fin t (suc n) d ≡ round binary64 (unlike s t) (m * up e * down d) (suc n * up d * down e)
unfolding div
quotient_is s t m n e d = rw (ne_eqb (suc n) 0 (λ z. omega arith))

-- |x| ≤ |y|, and y is not 0: |x / y| ≤ 1
pub quotient_small : (x y : Float) → finite x ≡ true → finite y ≡ true → eq y 𝟎 ≡ false → lt (abs y) (abs x) ≡ false → le (abs (x ⊘ y)) 𝟏 ≡ true
quotient_small nan y f g z h = absurd (false≢true f)
quotient_small (inf s) y f g z h = absurd (false≢true f)
quotient_small (fin s m e) nan f g z h = absurd (false≢true g)
quotient_small (fin s m e) (inf t) f g z h = absurd (false≢true g)
quotient_small (fin s m e) (fin t zero d) f g z h = never (eq_zero t d) z
quotient_small (fin s m e) (fin t (suc n) d) f g z h =
    ap (λ (x : Float). le (abs x) 𝟏) (quotient_is s t m n e d)
    ∙ small_fraction (unlike s t) (m * up e * down d) (suc n * up d * down e)
    (mul-pos (mul-pos (zero-lt-suc n) (up_pos d)) (down_pos e)) (unfold lt abs in ltb-false (suc n * up d * down e) (m * up e * down d) h)
