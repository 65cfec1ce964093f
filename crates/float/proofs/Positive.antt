-- Numbers above 0. Assumes nothing.
use Prim.Native.Nat.{ℕ, zero, suc, ◌*◌}
use native.Mathlib.Nat.{zero-lt-suc, suc-ne-zero}
use mathlib.Core.Path.{◌≡◌, refl, sym}
use mathlib.Core.Bool.{Bool, true, false, cond, false≢true}
use lib.IntN.{ℤ}
use lib.Dec.{T, lt→ltb}
use lib.Ieee.{Float, nan, inf, fin, binary64, up, down, round, lt, le, eq, div, is_nan}
use lib.Ieee.Scale.{finite}
use lib.Ieee.Positive.{positive, above}
use borrow.Author.Tests.{ne_eqb}
use Rattle.float.specs.Operators.{◌⊘◌, 𝟎}
use Rattle.float.specs.Methods.{min_num}
use Rattle.float.proofs.Cases.{no, never, or_yes, or_yes_right}
use Rattle.float.proofs.Laws.{eq_some, eq_zero, lt_minus}

pub above-finite : (x : Float) → finite x ≡ true → T (above x) → T (positive x)
above-finite nan f a = absurd a
above-finite (inf s) f a = absurd (false≢true f)
above-finite (fin true m e) f a = absurd a
above-finite (fin false m e) f a = a

pub positive-finite : (x : Float) → T (positive x) → finite x ≡ true
positive-finite nan p = absurd p
positive-finite (inf s) p = absurd p
positive-finite (fin s m e) p = refl

pub positive_some : (x : Float) → T (positive x) → eq x 𝟎 ≡ false
positive_some nan p = absurd p
positive_some (inf s) p = absurd p
positive_some (fin true m e) p = absurd p
positive_some (fin false zero e) p = absurd p
positive_some (fin false (suc m) e) p = eq_some false m e

-- a finite number that is not at most 0
pub over_zero : (x : Float) → finite x ≡ true → le x 𝟎 ≡ false → T (positive x)
unfolding le
over_zero nan f h = absurd (false≢true f)
over_zero (inf s) f h = absurd (false≢true f)
over_zero (fin s zero e) f h = never (or_yes_right (lt (fin s 0 e) 𝟎) (eq_zero s e)) h
over_zero (fin true (suc m) e) f h = never (or_yes (eq (fin true (suc m) e) 𝟎) (lt_minus m e)) h
over_zero (fin false (suc m) e) f h = lt→ltb 0 (suc m) (zero-lt-suc m)

-- the smaller of one and a finite one
pub smaller : (x m : Float) → T (above x) → T (positive m) → T (positive (min_num x m))
unfolding is_nan lt
smaller nan m a p = absurd a
smaller (inf true) m a p = absurd a
smaller (inf false) nan a p = absurd p
smaller (inf false) (inf t) a p = absurd p
smaller (inf false) (fin s n k) a p = p
smaller (fin true b e) m a p = absurd a
smaller (fin false b e) m a p = go (lt m (fin false b e))
  where
    go : (t : Bool) → T (positive (cond t m (fin false b e)))
    go true = p
    go false = a

-- a quotient by one
pub div_some : (m n : ℕ) (e k : ℤ) → fin false m e ⊘ fin false (suc n) k ≡ round binary64 false (m * up e * down k) (suc n * up k * down e)
unfolding div
div_some m n e k = sym (no _ (ne_eqb (suc n) 0 (suc-ne-zero n)) refl)
