-- What interpolate refuses, and what it leaves in the output. Definitions only.
use Rattle.std.specs.Prelude.{ℕ, ◌*◌, Bool, not, ◌&&◌, cond, List, [], ◌∷◌, eqb, leb, length, Float, Result, Ok, Err, ⊤}
use Rattle.std.specs.Float.Ieee.{lt, le, ne}
use Rattle.std.specs.Float.Ieee.Scale.{finite}
use Rattle.vector.specs.Lists.{table, all_finite}
use Rattle.stepping.specs.declared.Refusal.{Refusal}
use Rattle.stepping.specs.declared.Refusal.TheVariants.{Dimension, SegmentData, OutsideTimeSpan}
use Rattle.stepping.specs.Refusals.{Test, ◌when◌, first_of, unless_refused}
use Rattle.dense.specs.Segment.{Segment, size, component}

-- finite and different
unfoldable pub times_fit : Float → Float → Bool
times_fit start end = finite start && (finite end && ne end start)

-- n components of both states, from 1 to 32; an order from 2 to 4; as many rows of n corrections
unfoldable pub sizes_fit : ℕ → ℕ → ℕ → ℕ → Bool
sizes_fit n m k order = leb 1 n && (leb n 32 && (eqb m n && (leb 2 order && (leb order 4 && eqb k (order * n)))))

unfoldable pub numbers_fit : List Float → List Float → List Float → Bool
numbers_fit y z c = all_finite y && (all_finite z && all_finite c)

-- what the Rust's constructor takes, of at most 32 components
unfoldable pub valid : Segment → Bool
valid s =
    times_fit s.start_time s.end_time
    && (sizes_fit (size s) (length s.end_state) (length s.corrections) s.order
    && numbers_fit s.start_state s.end_state s.corrections)

-- the time lies between the ends, whichever is the earlier; a NaN does not
unfoldable pub contains : Float → Float → Float → Bool
contains start end time = cond (lt start end) (le start time && le time end) (le end time && le time start)

-- 1 for an output of another length; 11 for a time outside
abbrev pub query_tests : Bool → ℕ → ℕ → List Test
query_tests within m n = (Dimension when not (eqb m n)) ∷ (OutsideTimeSpan when not within) ∷ []

-- 10 for what is no segment, then the query's
abbrev pub tests : Segment → Float → ℕ → List Test
tests s time m = (SegmentData when not (valid s)) ∷ query_tests (contains s.start_time s.end_time time) m (size s)

-- whether it is refused, and what the output then holds
pub record Outcome : Type 0 where
  pub answer : Result ⊤ Refusal
  pub output : List Float

abbrev pub outcome : Result ⊤ Refusal → List Float → Outcome
outcome answer output = record { answer = answer; output = output }

-- where it is refused the output is as it was
unfoldable pub interpolate : Segment → Float → List Float → Outcome
interpolate s time output =
    unless_refused (λ refusal. outcome (Err refusal) output) (first_of (tests s time (length output))) (outcome (Ok tt) (table (component s time) (size s)))
