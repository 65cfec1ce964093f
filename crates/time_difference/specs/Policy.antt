-- How the time partial is probed: the policy, what it refuses, and the probes of a step, in IEEE 754 binary64. Definitions only.
use Rattle.std.specs.Prelude.{Bool, false, ◌||◌, cond, List, [], ◌∷◌, ◌++◌, Float, Option, Result, Err, ⊤}
use Rattle.std.specs.Bool.{then_some}
use Rattle.std.specs.Float.Ieee.{lt, le, eq}
use Rattle.float.specs.Operators.{◌⊕◌, ◌⊖◌, ◌⊗◌, 𝟎, 𝟏}
use Rattle.float.specs.Constants.{half, cbrt_epsilon}
use Rattle.float.specs.Methods.{abs, max_num, min_num, signum, clamp}
use Rattle.stepping.specs.declared.Refusal.{Refusal}
use Rattle.stepping.specs.declared.Refusal.TheVariants.{Direction}
use Rattle.stepping.specs.Refusals.{Test, ◌when◌, first_of, unless_refused, finite_test}
use Rattle.stepping.specs.Time.{time_tests}
use Rattle.time_difference.specs.declared.Bounds.{Bounds}
use Rattle.time_difference.specs.declared.TimeDifferencePolicy.{TimeDifferencePolicy}
use Rattle.time_difference.specs.Probes.{placed}

-- one time unit, the cube root of 2 ^ -52, half the interval, no bounds
unfoldable pub default_policy : TimeDifferencePolicy
default_policy =
    record {
      scale = 𝟏;
      relative_step = cbrt_epsilon;
      maximum_fraction = half;
      bounds = record { present = false; lo = 𝟎; hi = 𝟎 };
    }

-- the step is 0, the scale or the relative step is not above 0, or the fraction is not above 0 and at most a half
unfoldable pub out_of_range : TimeDifferencePolicy → Float → Bool
out_of_range p step =
    eq step 𝟎 || (le p.scale 𝟎 || (le p.relative_step 𝟎 || (le p.maximum_fraction 𝟎 || lt half p.maximum_fraction)))

-- the two ends, where there are bounds
abbrev pub range : Bounds → Option (Float × Float)
range b = then_some b.present (b.lo, b.hi)

-- the bounds are crossed, or the time lies outside them
unfoldable pub outside : Float → Float → Float → Bool
outside time lo hi = lt hi lo || (lt time lo || lt hi time)

abbrev pub setting_tests : TimeDifferencePolicy → Float → Float → List Test
setting_tests p time step =
    finite_test (time ∷ step ∷ p.scale ∷ p.relative_step ∷ p.maximum_fraction ∷ [])
    ∷ (Direction when out_of_range p step)
    ∷ []

abbrev pub bound_tests : Bounds → Float → List Test
bound_tests b time =
    cond b.present (finite_test (b.lo ∷ b.hi ∷ []) ∷ (Direction when outside time b.lo b.hi) ∷ []) []

-- the settings, then the time that the step reaches, then the bounds
unfoldable pub refusal : TimeDifferencePolicy → Float → Float → Result ⊤ Refusal
refusal p time step = first_of (setting_tests p time step ++ (time_tests time step ++ bound_tests p.bounds time))

-- the end of the step, cut at the bounds
unfoldable pub endpoint : Bounds → Float → Float
endpoint b end = cond b.present (clamp end b.lo b.hi) end

-- the relative step times the larger of scale and step, at most the fraction of what is available
unfoldable pub spacing : TimeDifferencePolicy → Float → Float → Float
spacing p step available = min_num (p.relative_step ⊗ max_num p.scale (abs step)) (p.maximum_fraction ⊗ available)

-- the times at which the right-hand side is probed for a step
unfoldable pub probes : TimeDifferencePolicy → Float → Float → Result (Float × Option Float) Refusal
probes p time step =
    let end = endpoint p.bounds (time ⊕ step) in
    unless_refused Err (refusal p time step) (placed time (signum step) end (spacing p step (abs (end ⊖ time))))
