-- The controller's records as the host has them: flat, with a flag beside each number that need not be there. Definitions only.
use Rattle.std.specs.Prelude.{Bool, true, false, cond, is_some, unwrap_or}
use Rattle.std.specs.Bool.{then_some}
use Rattle.float.specs.Operators.{𝟎}
use Rattle.stepping.specs.Refusals.{number_of}
use Rattle.settings.specs.declared.MinimumStepPolicy.{MinimumStepPolicy}
use Rattle.settings.specs.declared.MinimumStepPolicy.TheVariants.{Error, ForceAccept}
use Rattle.settings.specs.declared.ControllerConfig as settings
use Rattle.settings.specs.declared.Answered.{Answered}
use Rattle.controller.specs.declared.AdaptiveController as controller
use Rattle.host.specs.declared.ControllerConfig.{ControllerConfig}
use Rattle.host.specs.declared.AdaptiveController.{AdaptiveController}
use Rattle.host.specs.declared.Settings.{Settings}
use Rattle.host.specs.declared.Settled.{Settled}

unfoldable pub forces : MinimumStepPolicy → Bool
forces Error = false
forces ForceAccept = true

-- the settings that are handed over: a number whose flag is false is none
unfoldable pub config_of : ControllerConfig → settings.ControllerConfig
config_of c =
    record {
      beta = c.beta;
      safety = c.safety;
      minimum_factor = c.minimum_factor;
      maximum_factor = c.maximum_factor;
      rejection_maximum = c.rejection_maximum;
      rejected_acceptance_maximum = c.rejected_acceptance_maximum;
      minimum_step = c.minimum_step;
      maximum_step = c.maximum_step;
      minimum_step_policy = cond c.force_accept ForceAccept Error;
      initial_error_history = c.initial_error_history;
      error_history_floor = c.error_history_floor;
      accept_equal = c.accept_equal;
      rejection_exponent = then_some c.has_rejection_exponent c.rejection_exponent;
      repeated_rejection_maximum = then_some c.has_repeated_rejection_maximum c.repeated_rejection_maximum;
    }

-- the settings that are handed out: one that is none is 0, and its flag false
unfoldable pub flat : settings.ControllerConfig → ControllerConfig
unfolding forces
flat c =
    record {
      beta = c.beta;
      safety = c.safety;
      minimum_factor = c.minimum_factor;
      maximum_factor = c.maximum_factor;
      rejection_maximum = c.rejection_maximum;
      rejected_acceptance_maximum = c.rejected_acceptance_maximum;
      minimum_step = c.minimum_step;
      maximum_step = c.maximum_step;
      force_accept = forces c.minimum_step_policy;
      initial_error_history = c.initial_error_history;
      error_history_floor = c.error_history_floor;
      accept_equal = c.accept_equal;
      has_rejection_exponent = is_some c.rejection_exponent;
      rejection_exponent = unwrap_or c.rejection_exponent 𝟎;
      has_repeated_rejection_maximum = is_some c.repeated_rejection_maximum;
      repeated_rejection_maximum = unwrap_or c.repeated_rejection_maximum 𝟎;
    }

unfoldable pub controller_of : AdaptiveController → controller.AdaptiveController
controller_of k = record { config = config_of k.config; state = k.state }

-- settings that were made, with the number of a refusal, 0 for none
unfoldable pub of_settings : Answered settings.ControllerConfig → Settings
of_settings a = record { config = flat a.value; refusal = number_of a.answer }

-- The settings as they were handed over, with the state that a call left, and the number of a refusal, 0 for none. No call changes the settings.
unfoldable pub of_settled : ControllerConfig → Answered controller.AdaptiveController → Settled
of_settled c a = record { controller = record { config = c; state = a.value.state }; refusal = number_of a.answer }
