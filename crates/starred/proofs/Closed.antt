-- The closed cases, ★1 to ★6 and ★8, by computation. Assumes nothing.
use mathlib.Core.Path.{refl}
use lib.Ieee.{is_nan, lt, le, eq, ne, add, sub, mul, div, of_int, of_bits}
use Rattle.float.specs.Methods.{abs, signum}
use Rattle.vector.specs.Lists.{table, every, all_finite}
use Rattle.vector.specs.Parts.{puts}
use Rattle.vector.specs.Matrices.{rows}
use Rattle.stepping.specs.Refusals.{first_of, unless_refused}
use Rattle.stepping.specs.Time.{checked_time, clipped, points_away, if_reached, endpoint_step}
use Rattle.linear.specs.Elimination.{largest, scale, threshold, unusable, largest_row, stepped, eliminated, steps_done}
use Rattle.linear.specs.Calls.{square, elimination_of, raw_of, factorize_of}
use Rattle.dense.specs.Segment.{theta, horner, polynomial, blend, inside, component}
use Rattle.dense.specs.Interpolation.{times_fit, sizes_fit, numbers_fit, valid, contains, interpolate}
use Rattle.starred.specs.Table.{Star1, Star2, Star3, Star4, Star5, Star6, Star8}

pub star_1 : Star1
unfolding factorize_of raw_of elimination_of square first_of unless_refused every all_finite scale largest threshold unusable largest_row stepped eliminated steps_done rows table puts abs is_nan lt le eq mul div sub add of_int of_bits
star_1 p q = refl

pub star_2 : Star2
unfolding factorize_of raw_of elimination_of square first_of unless_refused every all_finite scale largest threshold unusable largest_row stepped eliminated steps_done rows table puts abs is_nan lt le eq mul div sub add of_int of_bits
star_2 p q = refl

-- 2 ^ -52 of it rounds to 0
pub star_3 : Star3
unfolding factorize_of raw_of elimination_of square first_of unless_refused every all_finite scale largest threshold unusable largest_row stepped eliminated steps_done rows table puts abs is_nan lt le eq mul div sub add of_int of_bits
star_3 p = refl

pub star_4 : Star4
unfolding endpoint_step checked_time clipped points_away if_reached first_of unless_refused every all_finite abs signum lt eq ne add sub of_bits
star_4 = refl

pub star_5 : Star5
unfolding endpoint_step checked_time clipped points_away if_reached first_of unless_refused every all_finite abs signum lt eq ne add sub of_bits
star_5 = refl

pub star_6 : Star6
unfolding endpoint_step checked_time clipped points_away if_reached first_of unless_refused every all_finite abs signum lt eq ne add sub of_bits
star_6 = refl

pub star_8 : Star8
unfolding interpolate times_fit sizes_fit numbers_fit valid contains theta horner polynomial blend inside component first_of unless_refused table every all_finite lt le eq ne add sub mul div of_bits
star_8 x = refl
