-- The time that a step reaches, and a proposed step cut at an endpoint, in IEEE 754 binary64. Definitions only.
use Rattle.std.specs.Prelude.{Bool, not, ◌&&◌, ◌||◌, cond, List, [], ◌∷◌, Float, Result, Ok, Err}
use Rattle.std.specs.Float.Ieee.{lt, eq, ne}
use Rattle.float.specs.Operators.{◌⊕◌, ◌⊖◌, 𝟎}
use Rattle.float.specs.Methods.{abs, signum}
use Rattle.vector.specs.Lists.{all_finite}
use Rattle.stepping.specs.declared.Refusal.{Refusal}
use Rattle.stepping.specs.declared.Refusal.TheVariants.{NonFinite, Direction, TimeResolution}
use Rattle.stepping.specs.Refusals.{Test, ◌when◌, first_of, unless_refused, finite_test}

-- a step other than 0 that leaves the time where it was
abbrev pub stuck : Float → Float → Float → Bool
stuck time step end = ne step 𝟎 && eq end time

-- 2 where the time, the step or the time plus the step, rounded once, is not finite; 5 where the step does not move the time
abbrev pub time_tests : Float → Float → List Test
time_tests time step =
    let end = time ⊕ step in
    finite_test (time ∷ step ∷ end ∷ []) ∷ (TimeResolution when stuck time step end) ∷ []

-- the time that a step reaches
unfoldable pub checked_time : Float → Float → Result Float Refusal
checked_time time step = unless_refused Err (first_of (time_tests time step)) (Ok (time ⊕ step))

-- a proposal that does not point to where the endpoint lies, the sign of a zero counted as Rust's signum counts it
unfoldable pub points_away : Float → Float → Bool
points_away remaining proposal = eq proposal 𝟎 || ne (signum remaining) (signum proposal)

-- the proposal, or what remains where the proposal is longer
unfoldable pub clipped : Float → Float → Float
clipped remaining proposal = cond (lt (abs remaining) (abs proposal)) remaining proposal

-- the step where checked_time passes it, and checked_time's refusal where it does not
unfoldable pub if_reached : Float → Result Float Refusal → Result Float Refusal
if_reached step (Ok end) = Ok step
if_reached step (Err refusal) = Err refusal

-- The proposal cut at the endpoint: 2 where a number is not finite; 0 at the endpoint; 4 where the proposal points away; then as checked_time
-- refuses the step.
unfoldable pub endpoint_step : Float → Float → Float → Result Float Refusal
endpoint_step time end proposal =
    let remaining = end ⊖ time in
    let step = clipped remaining proposal in
    cond (not (all_finite (time ∷ end ∷ proposal ∷ []))) (Err NonFinite)
    (cond (eq remaining 𝟎) (Ok 𝟎)
    (cond (points_away remaining proposal) (Err Direction)
    (if_reached step (checked_time time step))))
