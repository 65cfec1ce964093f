-- Which results are no NaN, and what a zero is not above. Assumes nothing.
use Prim.Native.Nat.{ℕ, zero, suc, ◌+◌, ◌*◌, ◌^◌}
use native.Mathlib.Nat.{zero-mul}
use native.Mathlib.Omega.{arith}
use mathlib.Core.Path.{◌≡◌, refl, ap, ◌∙◌}
use mathlib.Core.Bool.{Bool, true, false, cond, ◌&&◌, true≢false, false≢true}
use lib.IntN.{ℤ}
use lib.Dec.{ltb, eqb}
use lib.Ieee.{Float, nan, inf, fin, Format, binary64, prec, emax, low, up, down, is_nan, lt, le, eq, odd, units, round, mul, unlike, of_bits}
use lib.Ieee.Scale.{finite}
use borrow.Author.Tests.{eq-eqb, ne_eqb, ltb-false}
use Rattle.float.specs.Operators.{◌⊗◌, 𝟎}
use Rattle.float.specs.Methods.{abs}
use Rattle.float.proofs.Cases.{by, never, both, or_yes, or_yes_right}
use Rattle.float.proofs.Laws.{eq_some, eq_zero}
use Rattle.float.proofs.Zeros.{negative}

-- ---- a rounded fraction is a number, and so is the product of two finite numbers, or of a number and a finite one that is no zero
odd_number : (d : ℕ) (s : Bool) (q k l : ℕ) → is_nan (odd d s q k l) ≡ false
unfolding odd is_nan
odd_number d s zero k l = refl
odd_number d s (suc q) k l = refl

units_number : (f : Format) (s : Bool) (q k : ℕ) → is_nan (units f s q k) ≡ false
unfolding units
units_number f s q k = go (ltb (q * 2 ^ k) (2 ^ (low f + suc (emax f))))
  where
    go : (b : Bool) → is_nan (cond b (odd (suc (prec f)) s q k (low f)) (inf s)) ≡ false
    go true = odd_number (suc (prec f)) s q k (low f)
    go false = unfold is_nan in refl

pub round_number : (f : Format) (s : Bool) (a b : ℕ) → is_nan (round f s a b) ≡ false
unfolding round
round_number f s a b = units_number f s _ _

pub finite_product : (x y : Float) → finite x ≡ true → finite y ≡ true → is_nan (x ⊗ y) ≡ false
unfolding mul
finite_product nan y h f = absurd (false≢true h)
finite_product (inf s) y h f = absurd (false≢true h)
finite_product (fin s m e) nan h f = absurd (false≢true f)
finite_product (fin s m e) (inf t) h f = absurd (false≢true f)
finite_product (fin s m e) (fin t n d) h f = round_number binary64 (unlike s t) (m * up e * (n * up d)) (down e * down d)

some_number : (b s : Bool) → b ≡ false → is_nan (cond b nan (inf s)) ≡ false
unfolding is_nan
some_number true s h = absurd (true≢false h)
some_number false s h = refl

pub product_number : (x y : Float) → is_nan x ≡ false → finite y ≡ true → eq y 𝟎 ≡ false → is_nan (x ⊗ y) ≡ false
unfolding mul
product_number x nan h f z = absurd (false≢true f)
product_number x (inf t) h f z = absurd (false≢true f)
product_number nan (fin t n d) h f z = unfold is_nan in absurd (true≢false h)
product_number (inf s) (fin t zero d) h f z = never (eq_zero t d) z
product_number (inf s) (fin t (suc n) d) h f z = some_number (eqb (suc n) 0) (unlike s t) (ne_eqb (suc n) 0 (λ q. omega arith))
product_number (fin s m e) (fin t n d) h f z = finite_product (fin s m e) (fin t n d) refl refl

-- ---- a zero is not above a number that has no minus sign
module _ (e : ℤ) (n : ℕ) (d : ℤ) where
  abbrev A : ℕ
  A = 0 * up e * down d

  abbrev B : ℕ
  B = n * up d * down e

  none : A ≡ 0
  none = ap (λ (q : ℕ). q * down d) (zero-mul (up e)) ∙ zero-mul (down d)

  zero_least : le (fin false 0 e) (fin false n d) ≡ true
  unfolding le lt eq
  zero_least = by (ltb A B) (λ t. or_yes (eqb A B && true) t) (λ t. or_yes_right (ltb A B) (both (eq-eqb A B (omega (arith, none, ltb-false A B t))) refl))

pub zero_le : (x t : Float) → eq x 𝟎 ≡ true → negative t ≡ false → is_nan t ≡ false → le (abs x) t ≡ true
zero_le nan t h s i = unfold eq in absurd (false≢true h)
zero_le (inf u) t h s i = unfold eq of_bits in absurd (false≢true h)
zero_le (fin u (suc m) e) t h s i = never h (eq_some u m e)
zero_le (fin u zero e) nan h s i = unfold is_nan in absurd (true≢false i)
zero_le (fin u zero e) (inf true) h s i = absurd (true≢false s)
zero_le (fin u zero e) (inf false) h s i = unfold le lt abs in refl
zero_le (fin u zero e) (fin true n d) h s i = absurd (true≢false s)
zero_le (fin u zero e) (fin false n d) h s i = unfold abs in zero_least e n d
