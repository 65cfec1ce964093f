-- Which settings of a step size controller are valid. The controller is that of Hairer, Nørsett and Wanner, Solving Ordinary Differential Equations I,
-- II.4 (automatic step size control: a safety factor, and a least and a largest factor by which the step may change), with the exponents beta of
-- PI and PID control (Hairer and Wanner II, IV.2; Gustafsson). In two parts: the exponents, and all the rest. Definitions only.
use Rattle.std.specs.Prelude.{Bool, true, ◌&&◌, List, Float, Option, None, Some}
use Rattle.std.specs.Float.Ieee.{lt, le}
use Rattle.std.specs.Float.Ieee.Scale.{finite}
use Rattle.float.specs.Operators.{𝟎, 𝟏}
use Rattle.float.specs.Methods.{finite_positive}
use Rattle.vector.specs.Lists.{el}
use Rattle.settings.specs.declared.ControllerConfig.{ControllerConfig}

-- above 0, and at most 1
unfoldable pub fraction : Float → Bool
fraction x = lt 𝟎 x && le x 𝟏

-- what there is passes the test
unfoldable pub none_or : (Float → Bool) → Option Float → Bool
none_or test None = true
none_or test (Some x) = test x

-- The first exponent is finite and positive, the other two are finite; the exponent for a rejected step, if there is one, is finite and positive.
unfoldable pub valid_exponents : ControllerConfig → Bool
valid_exponents c =
    finite_positive (el c.beta 0) && (finite (el c.beta 1) && (finite (el c.beta 2)
    && none_or finite_positive c.rejection_exponent))

-- The safety factor is finite and positive. Of the factors by which a step may change, the least is a fraction, and the largest finite and not below
-- it. The caps: of a rejected step, and of one rejected again, if there is one, a fraction; of a step accepted after a rejection, finite and positive.
unfoldable pub valid_factors : ControllerConfig → Bool
valid_factors c =
    finite_positive c.safety && (fraction c.minimum_factor
    && ((le c.minimum_factor c.maximum_factor && finite c.maximum_factor)
    && (fraction c.rejection_maximum && (finite_positive c.rejected_acceptance_maximum
    && none_or fraction c.repeated_rejection_maximum))))

-- 0 ≤ least step ≤ largest step, which is finite and positive
unfoldable pub valid_steps : ControllerConfig → Bool
valid_steps c = (le 𝟎 c.minimum_step && le c.minimum_step c.maximum_step) && finite_positive c.maximum_step

-- two past errors: each finite and positive
unfoldable pub valid_errors : List Float → Bool
valid_errors e = finite_positive (el e 0) && finite_positive (el e 1)

-- the error history to begin with, and the least error that it takes up
unfoldable pub valid_history : ControllerConfig → Bool
unfolding valid_errors
valid_history c = valid_errors c.initial_error_history && finite_positive c.error_history_floor

-- all but the exponents
unfoldable pub valid_limits : ControllerConfig → Bool
valid_limits c = valid_factors c && (valid_steps c && valid_history c)

unfoldable pub valid_settings : ControllerConfig → Bool
valid_settings c = valid_exponents c && valid_limits c
