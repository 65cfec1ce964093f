-- Closed cases of the segment, by computation: backward in time, no components and 33, and an output of no places. Assumes nothing.
use mathlib.Core.Path.{◌≡◌, refl}
use mathlib.Core.Bool.{false}
use mathlib.Core.List.{List, [], ◌∷◌}
use Prim.Native.Nat.{ℕ}
use Rattle.std.specs.Prelude.{Ok, Err}
use Rattle.stepping.specs.declared.Refusal.TheVariants.{Dimension, SegmentData}
use lib.IntN.{pos}
use lib.ListN.{replicate}
use lib.Ieee.{Float, fin, lt, le, eq, ne, add, sub, mul, div, of_bits}
use Rattle.vector.specs.Lists.{table, every, all_finite}
use Rattle.stepping.specs.Refusals.{first_of, unless_refused}
use Rattle.dense.specs.Segment.{segment, theta, horner, polynomial, blend, inside, component}
use Rattle.dense.specs.Interpolation.{times_fit, sizes_fit, numbers_fit, valid, contains, outcome, interpolate}

abbrev zero : Float
zero = fin false 0 (pos 0)

abbrev one : Float
one = fin false 1 (pos 0)

abbrev two : Float
two = fin false 1 (pos 1)

abbrev three : Float
three = fin false 3 (pos 0)

abbrev four : Float
four = fin false 1 (pos 2)

-- from 2 back to 0, whatever the output held
pub backward : (x : Float) → interpolate (segment two zero (one ∷ []) (three ∷ []) (two ∷ four ∷ []) 2) one (x ∷ []) ≡ outcome (Ok tt) (three ∷ [])
unfolding interpolate times_fit sizes_fit numbers_fit valid contains theta horner polynomial blend inside component first_of unless_refused table every all_finite lt le eq ne add sub mul div of_bits
backward x = refl

-- refused, and the output is as it was
pub no_components : (c output : List Float) (order : ℕ) → interpolate (segment zero one [] [] c order) zero output ≡ outcome (Err SegmentData) output
unfolding interpolate times_fit sizes_fit numbers_fit valid first_of unless_refused eq ne
no_components c output order = refl

pub too_many : (c output : List Float) (order : ℕ) → interpolate (segment zero one (replicate 33 one) (replicate 33 one) c order) zero output ≡ outcome (Err SegmentData) output
unfolding interpolate times_fit sizes_fit numbers_fit valid first_of unless_refused eq ne
too_many c output order = refl

-- the length before the time: an output of no places, and a time outside
pub length_before_time : interpolate (segment zero two (one ∷ []) (three ∷ []) (two ∷ four ∷ []) 2) four [] ≡ outcome (Err Dimension) []
unfolding interpolate times_fit sizes_fit numbers_fit valid contains first_of unless_refused every all_finite lt le eq ne
length_before_time = refl
