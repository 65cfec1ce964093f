-- The norm at its edges, by computation: no components and 33; a number that is not finite before a tolerance that is 0; and a component of error 3
-- on a scale of 1. Assumes nothing.
use mathlib.Core.Path.{◌≡◌, refl}
use mathlib.Core.Bool.{true, false}
use mathlib.Core.List.{[], ◌∷◌}
use lib.IntN.{pos, negsuc}
use lib.ListN.{replicate}
use lib.Ieee.{Float, nan, fin, is_nan, lt, add, mul, div, of_bits, of_int, round, size, odd}
use Rattle.float.specs.Methods.{abs, finite_positive}
use Rattle.vector.specs.Lists.{every, all_finite}
use Rattle.square_root.specs.Root.{whole_root, half_exponent, significand, root_of_units, square_root}
use Rattle.stepping.specs.Refusals.{first_of, unless_refused}
use Rattle.stepping.specs.Dimension.{same_dimension}
use Rattle.std.specs.Prelude.{Ok, Err}
use Rattle.stepping.specs.declared.Refusal.TheVariants.{Dimension, NonFinite, Tolerance}
use Rattle.norm.specs.ErrorNorm.{scale, ratio, sum_of_squares, root_mean_square, error_norm}
use Rattle.norm.specs.ScaledErrorNorm.{scaled_error_norm}

-- whatever the tolerances, and whatever the numbers
pub no_components : (a r : Float) → scaled_error_norm a r [] [] [] ≡ Err Dimension
unfolding scaled_error_norm first_of unless_refused same_dimension
no_components a r = refl

pub too_many : (a r x : Float) → scaled_error_norm a r (replicate 33 x) (replicate 33 x) (replicate 33 x) ≡ Err Dimension
unfolding scaled_error_norm first_of unless_refused same_dimension
too_many a r x = refl

abbrev zero : Float
zero = fin false 0 (pos 0)

abbrev half : Float
half = fin false 1 (negsuc 0)

abbrev one : Float
one = fin false 1 (pos 0)

abbrev three : Float
three = fin false 3 (pos 0)

pub not_finite_first : scaled_error_norm zero zero (nan ∷ []) (one ∷ []) (one ∷ []) ≡ Err NonFinite
unfolding scaled_error_norm first_of unless_refused same_dimension finite_positive every all_finite lt of_bits
not_finite_first = refl

pub no_tolerance : scaled_error_norm zero one (one ∷ []) (one ∷ []) (one ∷ []) ≡ Err Tolerance
unfolding scaled_error_norm first_of unless_refused same_dimension finite_positive every all_finite lt of_bits
no_tolerance = refl

-- 3 / (1/2 + 1/2 · max(|0|, |-1|))
pub one_component : scaled_error_norm half half (zero ∷ []) (fin true 1 (pos 0) ∷ []) (three ∷ []) ≡ Ok three
unfolding scaled_error_norm error_norm root_mean_square sum_of_squares ratio scale first_of unless_refused same_dimension finite_positive every all_finite abs is_nan lt add mul div of_bits of_int round size odd whole_root half_exponent significand root_of_units square_root
one_component = refl
