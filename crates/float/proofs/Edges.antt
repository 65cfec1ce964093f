-- The methods of `specs.Methods` at NaN, the zeros and the infinities, by computation. Assumes nothing.
use mathlib.Core.Path.{◌≡◌, refl}
use mathlib.Core.Bool.{true, false}
use lib.IntN.{pos}
use lib.Ieee.{Float, nan, inf, fin, is_nan, lt}
use Rattle.float.specs.Methods.{abs, max_num, min_num, signum, clamp}

abbrev one : Float
one = fin false 1 (pos 0)

abbrev minus_one : Float
minus_one = fin true 1 (pos 0)

abbrev minus_zero : Float
minus_zero = fin true 0 (pos 0)

-- a NaN loses, on either side, to every number
pub max_nan : (x : Float) → (max_num nan x ≡ x) × (max_num x nan ≡ x) × (min_num nan x ≡ x) × (min_num x nan ≡ x)
unfolding is_nan lt
max_nan nan = (refl, refl, refl, refl)
max_nan (inf s) = (refl, refl, refl, refl)
max_nan (fin s m e) = (refl, refl, refl, refl)

pub max_inf : (max_num (inf true) one ≡ one) × (min_num (inf true) one ≡ inf true) × (max_num one (inf false) ≡ inf false)
unfolding is_nan lt
max_inf = (refl, refl, refl)

-- and is kept by a clamp
pub clamp-nan : clamp nan minus_one one ≡ nan
unfolding lt
clamp-nan = refl

pub clamp-inf : (clamp (inf true) minus_one one ≡ minus_one) × (clamp (inf false) minus_one one ≡ one)
unfolding lt
clamp-inf = (refl, refl)

pub signum-minus_zero : signum minus_zero ≡ minus_one
unfolding signum
signum-minus_zero = refl

pub signum-inf : (signum (inf true) ≡ minus_one) × (signum nan ≡ nan)
unfolding signum
signum-inf = (refl, refl)

pub abs-minus_zero : (abs minus_zero ≡ fin false 0 (pos 0)) × (abs (inf true) ≡ inf false) × (abs nan ≡ nan)
unfolding abs
abs-minus_zero = (refl, refl, refl)
