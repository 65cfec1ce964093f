-- Where a one-sided difference quotient in time is probed, and the quotient, in IEEE 754 binary64: at the time plus a spacing and plus twice the
-- spacing, or at the next doubles where rounding leaves no spacing. Definitions only.
use Rattle.std.specs.Prelude.{Bool, ◌&&◌, ◌||◌, cond, Float, Option, Result, Ok, Err}
use Rattle.std.specs.Bool.{then_some}
use Rattle.std.specs.Float.{binary64, next_up, next_down}
use Rattle.std.specs.Float.Ieee.{lt, le, eq}
use Rattle.std.specs.Float.Ieee.Scale.{finite}
use Rattle.float.specs.Operators.{◌⊕◌, ◌⊖◌, ◌⊗◌, ◌⊘◌, 𝟎, 𝟐}
use Rattle.stepping.specs.declared.Refusal.{Refusal}
use Rattle.stepping.specs.declared.Refusal.TheVariants.{TimeResolution}

-- the next double up for a direction of 1, and down for -1: where the value is finite the least double above it and the greatest below (`Neighbours`)
unfoldable pub adjacent : Float → Float → Float
adjacent value direction = cond (lt 𝟎 direction) (next_up binary64 value) (next_down binary64 value)

-- how far `to` lies ahead of `from`, for a direction of 1 or -1
abbrev pub ahead : Float → Float → Float → Float
ahead direction to from = (to ⊖ from) ⊗ direction

unfoldable pub first_probe : Float → Float → Float → Float
first_probe time direction spacing =
    let first = time ⊕ direction ⊗ spacing in
    cond (eq first time) (adjacent time direction) first

unfoldable pub second_probe : Float → Float → Float → Float → Float
second_probe time direction spacing first =
    let second = time ⊕ direction ⊗ 𝟐 ⊗ spacing in
    cond (le (ahead direction second first) 𝟎) (adjacent first direction) second

-- the first probe is not ahead of the time, or is past the endpoint
unfoldable pub missed : Float → Float → Float → Float → Bool
missed time direction endpoint first = le (ahead direction first time) 𝟎 || lt (ahead direction endpoint first) 𝟎

-- the second probe is not past the endpoint, and finite
abbrev pub reached : Float → Float → Float → Bool
reached direction endpoint second = le 𝟎 (ahead direction endpoint second) && finite second

-- 5 where the first probe misses; the second only where it is reached
unfoldable pub placed : Float → Float → Float → Float → Result (Float × Option Float) Refusal
placed time direction endpoint spacing =
    let first = first_probe time direction spacing in
    let second = second_probe time direction spacing first in
    cond (missed time direction endpoint first) (Err TimeResolution) (Ok (first, then_some (reached direction endpoint second) second))

-- the difference quotient over the distance d
abbrev pub slope : Float → Float → Float → Float
slope base value d = (value ⊖ base) ⊘ d

-- the derivative at 0 of the parabola through the base and the values at d₁ and d₂
unfoldable pub parabola : Float → Float → Float → Float → Float → Float
parabola base first second d₁ d₂ = (d₂ ⊗ slope base first d₁ ⊖ d₁ ⊗ slope base second d₂) ⊘ (d₂ ⊖ d₁)

-- the time partial from two probed values, or from one
unfoldable pub partial : Bool → Float → Float → Float → Float → Float → Float
unfolding parabola
partial two base first second d₁ d₂ = cond two (parabola base first second d₁ d₂) (slope base first d₁)
