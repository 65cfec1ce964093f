-- The doubles beside a double (IEEE 754-2019, 5.3.1, nextUp and nextDown), in the order of the standard: the two zeros are equal, and a NaN lies
-- neither above nor below anything. Definitions only.
use Rattle.std.specs.Prelude.{T, Float}
use Rattle.std.specs.Float.{binary64, ◌<ᶠ◌, ◌≤ᶠ◌}
use Rattle.std.specs.Float.Ieee.{fits}

-- w is the least double above v
pub record LeastAbove (v w : Float) : Type 0 where
  pub held : T (fits binary64 w)
  pub above : v <ᶠ w
  pub least : (z : Float) → T (fits binary64 z) → v <ᶠ z → w ≤ᶠ z

-- w is the greatest double below v
pub record GreatestBelow (v w : Float) : Type 0 where
  pub held : T (fits binary64 w)
  pub below : w <ᶠ v
  pub greatest : (z : Float) → T (fits binary64 z) → z <ᶠ v → z ≤ᶠ w
