-- Automatic step size control: whether a step of size h with the error err is accepted, and the next step, h times a factor (Hairer, Nørsett and
-- Wanner, Solving Ordinary Differential Equations I, II.4, with PI and PID control as in Hairer and Wanner II, IV.2, and Gustafsson). The factor starts
-- from the product of the safety factor and the powers of the errors, or from a limit where the error is 0 or infinite; then each rule takes the
-- number that the one before it left: lower factor, upper factor, the three caps, minimum step, maximum step. Definitions only.
use Rattle.std.specs.Prelude.{Bool, true, false, not, ◌&&◌, ◌||◌, cond, ltb, Float, Option, None, Some}
use Rattle.std.specs.Float.{inf}
use Rattle.std.specs.Float.Ieee.{lt, le, eq}
use Rattle.float.specs.Operators.{◌⊗◌, 𝟎, 𝟏}
use Rattle.float.specs.Methods.{abs, min_num, signum}
use Rattle.settings.specs.declared.ControllerConfig.{ControllerConfig}
use Rattle.settings.specs.declared.MinimumStepPolicy.{MinimumStepPolicy}
use Rattle.settings.specs.declared.MinimumStepPolicy.TheVariants.{Error, ForceAccept}
use Rattle.settings.specs.declared.ControllerState.{ControllerState}
use Rattle.proposal.specs.declared.StepDecision.{StepDecision}

-- ---- is the step accepted

-- the error is at most 1, or below 1 where equality is not accepted
unfoldable pub within_tolerance : ControllerConfig → Float → Bool
within_tolerance c err = cond c.accept_equal (le err 𝟏) (lt err 𝟏)

-- no shorter step is allowed
unfoldable pub at_minimum : ControllerConfig → Float → Bool
at_minimum c h = le (abs h) c.minimum_step

unfoldable pub forces : MinimumStepPolicy → Bool
forces Error = false
forces ForceAccept = true

-- accepted only because no shorter step is allowed, where the settings ask for that
unfoldable pub is_forced : ControllerConfig → Float → Float → Bool
is_forced c h err = not (within_tolerance c err) && (at_minimum c h && forces c.minimum_step_policy)

unfoldable pub is_accepted : ControllerConfig → Float → Float → Bool
is_accepted c h err = within_tolerance c err || is_forced c h err

-- ---- the rules of the factor

-- error zero, error infinite, or the product
unfoldable pub start_factor : ControllerConfig → Float → Float → Float
start_factor c err product = cond (eq err 𝟎) c.maximum_factor (cond (eq err (inf false)) c.minimum_factor product)

-- lo for a number below it, hi for one above it; a NaN is kept
unfoldable pub at_least : Float → Float → Float
at_least lo x = cond (lt x lo) lo x

unfoldable pub at_most : Float → Float → Float
at_most hi x = cond (lt hi x) hi x

abbrev pub lower_factor : ControllerConfig → Float → Float
lower_factor c x = at_least c.minimum_factor x

abbrev pub upper_factor : ControllerConfig → Float → Float
upper_factor c x = at_most c.maximum_factor x

-- of a rejected step; a cap replaces a NaN
unfoldable pub rejection_cap : ControllerConfig → Bool → Float → Float
rejection_cap c accepted x = cond accepted x (min_num x c.rejection_maximum)

-- where there is a cap
unfoldable pub capped : Float → Option Float → Float
capped x None = x
capped x (Some cap) = min_num x cap

-- of a step that is rejected again
unfoldable pub repeated_cap : ControllerConfig → ControllerState → Bool → Float → Float
repeated_cap c s accepted x = cond accepted x (cond (ltb 0 s.consecutive_rejections) (capped x c.repeated_rejection_maximum) x)

-- of a step that is accepted after a rejection
unfoldable pub cap_after_rejection : ControllerConfig → ControllerState → Bool → Float → Float
cap_after_rejection c s accepted x = cond accepted (cond s.rejected_since_acceptance (min_num x c.rejected_acceptance_maximum) x) x

unfoldable pub factor : ControllerConfig → ControllerState → Bool → Float → Float → Float
factor c s accepted err product =
    cap_after_rejection c s accepted (repeated_cap c s accepted (rejection_cap c accepted (upper_factor c (lower_factor c (start_factor c err product)))))

-- ---- the rules of the step

abbrev pub lower_step : ControllerConfig → Float → Float
lower_step c x = at_least c.minimum_step x

abbrev pub upper_step : ControllerConfig → Float → Float
upper_step c x = at_most c.maximum_step x

-- a magnitude within the limits, with the sign of h
unfoldable pub limited : ControllerConfig → Float → Float → Float
limited c h magnitude = signum h ⊗ upper_step c (lower_step c magnitude)

unfoldable pub next_step : ControllerConfig → ControllerState → Float → Float → Float → Float
next_step c s h err product = limited c h (abs h ⊗ factor c s (is_accepted c h err) err product)

-- ---- the decision

unfoldable pub decision : ControllerConfig → ControllerState → Float → Float → Float → StepDecision
decision c s h err product =
    record { accepted = is_accepted c h err; forced = is_forced c h err; next_step = next_step c s h err product }
