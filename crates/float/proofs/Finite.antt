-- A rounded sum, product or quotient that is finite is one of finite numbers. Assumes nothing.
use mathlib.Core.Path.{◌≡◌, refl}
use mathlib.Core.Bool.{Bool, true, false, cond, false≢true, beq}
use lib.Dec.{eqb}
use lib.Ieee.{Float, nan, inf, fin, add, mul, div, unlike}
use lib.Ieee.Scale.{finite}
use Rattle.float.specs.Operators.{◌⊕◌, ◌⊗◌, ◌⊘◌}
use Rattle.float.proofs.Cases.{never}

-- neither arm is finite
neither : (b : Bool) (x y : Float) → finite x ≡ false → finite y ≡ false → finite (cond b x y) ≡ false
neither true x y p q = p
neither false x y p q = q

pub finite_sum : (x y : Float) → finite (x ⊕ y) ≡ true → (finite x ≡ true) × (finite y ≡ true)
unfolding add
finite_sum nan y h = absurd (false≢true h)
finite_sum (inf s) nan h = absurd (false≢true h)
finite_sum (inf s) (inf t) h = never h (neither (beq s t) (inf s) nan refl refl)
finite_sum (inf s) (fin t n d) h = absurd (false≢true h)
finite_sum (fin s m e) nan h = absurd (false≢true h)
finite_sum (fin s m e) (inf t) h = absurd (false≢true h)
finite_sum (fin s m e) (fin t n d) h = (refl, refl)

pub finite_product : (x y : Float) → finite (x ⊗ y) ≡ true → (finite x ≡ true) × (finite y ≡ true)
unfolding mul
finite_product nan y h = absurd (false≢true h)
finite_product (inf s) nan h = absurd (false≢true h)
finite_product (inf s) (inf t) h = absurd (false≢true h)
finite_product (inf s) (fin t n d) h = never h (neither (eqb n 0) nan (inf (unlike s t)) refl refl)
finite_product (fin s m e) nan h = absurd (false≢true h)
finite_product (fin s m e) (inf t) h = never h (neither (eqb m 0) nan (inf (unlike s t)) refl refl)
finite_product (fin s m e) (fin t n d) h = (refl, refl)

-- the divisor may be infinite
pub finite_quotient : (x y : Float) → finite (x ⊘ y) ≡ true → finite x ≡ true
unfolding div
finite_quotient nan y h = h
finite_quotient (inf s) nan h = h
finite_quotient (inf s) (inf t) h = h
finite_quotient (inf s) (fin t n d) h = h
finite_quotient (fin s m e) y h = refl
