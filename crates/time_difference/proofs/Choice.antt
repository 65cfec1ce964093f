-- Where the probes are not refused no maximum or minimum of theirs is of two zeros that differ: the scale is no zero, and where both sides of the
-- spacing's minimum are zeros they are one value. Assumes nothing.
use mathlib.Core.Path.{◌≡◌}
use mathlib.Core.Bool.{true, false}
use Rattle.std.specs.Prelude.{Ok}
use lib.Ieee.{Float, binary64, lt, le, eq}
use lib.Ieee.Fits.{mul-fits}
use Rattle.float.specs.Operators.{◌⊗◌, 𝟎}
use Rattle.float.specs.Methods.{abs, max_num}
use Rattle.float.proofs.Cases.{or_left, or_right}
use Rattle.float.proofs.Zeros.{zeros_same, abs_plain, above_plain, max_plain, mul_plain}
use Rattle.stepping.specs.declared.Refusal.TheVariants.{NonFinite, Direction}
use Rattle.stepping.proofs.Refusals.{passed}
use Rattle.time_difference.specs.declared.TimeDifferencePolicy.{TimeDifferencePolicy}
use Rattle.time_difference.specs.Policy.{out_of_range, refusal}

module _ (p : TimeDifferencePolicy) (time step : Float) (fit : refusal p time step ≡ Ok tt) where
  right : out_of_range p step ≡ false
  unfolding refusal
  right = (passed Direction (out_of_range p step) _ (passed NonFinite _ _ fit).1).0

  pub record Settings : Type 0 where
    pub scale : le p.scale 𝟎 ≡ false
    pub relative : le p.relative_step 𝟎 ≡ false
    pub fraction : le p.maximum_fraction 𝟎 ≡ false

  pub settings : Settings
  unfolding out_of_range
  settings =
      let a = or_right (eq step 𝟎) _ right in
      let b = or_right (le p.scale 𝟎) _ a in
      let c = or_right (le p.relative_step 𝟎) _ b in
      record {
        scale = or_left (le p.scale 𝟎) _ a;
        relative = or_left (le p.relative_step 𝟎) _ b;
        fraction = or_left (le p.maximum_fraction 𝟎) _ c;
      }

  pub scale_no_zero : eq p.scale 𝟎 ≡ false
  unfolding le
  scale_no_zero = or_right (lt p.scale 𝟎) _ settings.scale

  -- for any distance v that is available
  pub spacing_one_zero : (v : Float) → eq (p.relative_step ⊗ max_num p.scale (abs step)) 𝟎 ≡ true → eq (p.maximum_fraction ⊗ abs v) 𝟎 ≡ true
      → p.relative_step ⊗ max_num p.scale (abs step) ≡ p.maximum_fraction ⊗ abs v
  spacing_one_zero v h k =
      let s = settings in
      let m = max_num p.scale (abs step) in
      zeros_same (p.relative_step ⊗ m) (p.maximum_fraction ⊗ abs v) (mul-fits binary64 p.relative_step m) (mul-fits binary64 p.maximum_fraction (abs v))
      (mul_plain p.relative_step m (above_plain p.relative_step s.relative) (max_plain p.scale (abs step) (above_plain p.scale s.scale) (abs_plain step)))
      (mul_plain p.maximum_fraction (abs v) (above_plain p.maximum_fraction s.fraction) (abs_plain v)) h k
