-- What valid settings say of each number, and that no cap is a zero: so a minimum with a cap is never of two zeros. Assumes nothing.
use mathlib.Core.Path.{◌≡◌}
use mathlib.Core.Bool.{Bool, true, false, ◌&&◌}
use Rattle.std.specs.Prelude.{Option, None, Some}
use lib.Ieee.{Float, lt, le, eq}
use lib.Ieee.Scale.{finite}
use Rattle.float.specs.Methods.{finite_positive}
use Rattle.float.specs.Operators.{𝟎, 𝟏}
use Rattle.float.proofs.Cases.{and_left, and_right, or_right}
use Rattle.float.proofs.Order.{lt_not_le}
use Rattle.settings.specs.declared.ControllerConfig.{ControllerConfig}
use Rattle.settings.specs.Valid.{fraction, none_or, valid_exponents, valid_factors, valid_steps, valid_errors, valid_history, valid_limits, valid_settings}

-- a number above 0 is no zero
pub above_no_zero : (x : Float) → lt 𝟎 x ≡ true → eq x 𝟎 ≡ false
unfolding le
above_no_zero x h = or_right (lt x 𝟎) (eq x 𝟎) (lt_not_le 𝟎 x h)

pub positive_no_zero : (x : Float) → finite_positive x ≡ true → eq x 𝟎 ≡ false
unfolding finite_positive
positive_no_zero x h = above_no_zero x (and_left (lt 𝟎 x) (finite x) h)

pub fraction_no_zero : (x : Float) → fraction x ≡ true → eq x 𝟎 ≡ false
unfolding fraction
fraction_no_zero x h = above_no_zero x (and_left (lt 𝟎 x) (le x 𝟏) h)

if_there : (test : Float → Bool) (o : Option Float) → none_or test o ≡ true → (x : Float) → o ≡ Some x → test x ≡ true
unfolding none_or
if_there test None h x e = cc
if_there test (Some y) h x e = cc

module _ (c : ControllerConfig) (valid : valid_settings c ≡ true) where
  pub record Ranges : Type 0 where
    pub safety : finite_positive c.safety ≡ true
    pub least_factor : fraction c.minimum_factor ≡ true
    pub factors : le c.minimum_factor c.maximum_factor ≡ true
    pub largest_factor : finite c.maximum_factor ≡ true
    pub rejection : fraction c.rejection_maximum ≡ true
    pub acceptance : finite_positive c.rejected_acceptance_maximum ≡ true
    pub repeated : (cap : Float) → c.repeated_rejection_maximum ≡ Some cap → fraction cap ≡ true
    pub least_step : le 𝟎 c.minimum_step ≡ true
    pub steps : le c.minimum_step c.maximum_step ≡ true
    pub largest_step : finite_positive c.maximum_step ≡ true
    pub history : valid_errors c.initial_error_history ≡ true
    pub floor : finite_positive c.error_history_floor ≡ true

  limits : valid_limits c ≡ true
  unfolding valid_settings
  limits = and_right (valid_exponents c) (valid_limits c) valid

  pub ranges : Ranges
  unfolding valid_limits valid_factors valid_steps valid_history
  ranges =
      let f = and_left (valid_factors c) _ limits in
      let t = and_right (valid_factors c) _ limits in
      let s = and_left (valid_steps c) _ t in
      let h = and_right (valid_steps c) _ t in
      let f₁ = and_right (finite_positive c.safety) _ f in
      let f₂ = and_right (fraction c.minimum_factor) _ f₁ in
      let m = and_left (le c.minimum_factor c.maximum_factor && finite c.maximum_factor) _ f₂ in
      let f₃ = and_right (le c.minimum_factor c.maximum_factor && finite c.maximum_factor) _ f₂ in
      let f₄ = and_right (fraction c.rejection_maximum) _ f₃ in
      let l = and_left (le 𝟎 c.minimum_step && le c.minimum_step c.maximum_step) _ s in
      record {
        safety = and_left (finite_positive c.safety) _ f;
        least_factor = and_left (fraction c.minimum_factor) _ f₁;
        factors = and_left (le c.minimum_factor c.maximum_factor) _ m;
        largest_factor = and_right (le c.minimum_factor c.maximum_factor) _ m;
        rejection = and_left (fraction c.rejection_maximum) _ f₃;
        acceptance = and_left (finite_positive c.rejected_acceptance_maximum) _ f₄;
        repeated = if_there fraction c.repeated_rejection_maximum (and_right (finite_positive c.rejected_acceptance_maximum) _ f₄);
        least_step = and_left (le 𝟎 c.minimum_step) _ l;
        steps = and_right (le 𝟎 c.minimum_step) _ l;
        largest_step = and_right (le 𝟎 c.minimum_step && le c.minimum_step c.maximum_step) _ s;
        history = and_left (valid_errors c.initial_error_history) _ h;
        floor = and_right (valid_errors c.initial_error_history) _ h;
      }
