-- Making, resetting and restoring a step size controller, and reading it (Hairer, Nørsett and Wanner, Solving Ordinary Differential Equations I, II.4;
-- the error history is that of PI and PID control, Hairer and Wanner II, IV.2, and Gustafsson). Every call first tests the settings and the past
-- errors at hand; a refusal changes nothing. Definitions only.
use Rattle.std.specs.Prelude.{Bool, false, not, ◌&&◌, List, [], ◌∷◌, ltb, Float, Result, Ok, Err}
use Rattle.std.specs.Bool.{beq}
use Rattle.std.specs.Float.Ieee.{le}
use Rattle.float.specs.Methods.{abs}
use Rattle.stepping.specs.declared.Refusal.{Refusal}
use Rattle.stepping.specs.declared.Refusal.TheVariants.{Configuration}
use Rattle.stepping.specs.Refusals.{Test, ◌when◌, first_of, unless_refused}
use Rattle.settings.specs.declared.ControllerConfig.{ControllerConfig}
use Rattle.settings.specs.declared.ControllerState.{ControllerState}
use Rattle.settings.specs.declared.Answered.{Answered}
use Rattle.settings.specs.Valid.{valid_settings, valid_errors}
use Rattle.proposal.specs.Rules.{limited}
use Rattle.controller.specs.declared.AdaptiveController.{AdaptiveController}
use Rattle.controller.specs.Assess.{sound, sound_tests, usable, controller_of}

-- what is handed back by a call that is done, and by one that is refused
abbrev pub done : AdaptiveController → Answered AdaptiveController
done k = record { value = k; answer = Ok tt }

abbrev pub kept : AdaptiveController → Refusal → Answered AdaptiveController
kept k r = record { value = k; answer = Err r }

-- no rejection, the error history that the settings have, and a next step
unfoldable pub fresh : ControllerConfig → Float → AdaptiveController
fresh c next =
    controller_of c
    (record {
      accepted_errors = c.initial_error_history;
      rejected_since_acceptance = false;
      next_step = next;
      consecutive_rejections = 0;
    })

-- the next step is the one handed over, within the limits of the step
unfoldable pub started : ControllerConfig → Float → AdaptiveController
started c h = fresh c (limited c h (abs h))

abbrev pub new_tests : ControllerConfig → Float → List Test
new_tests c h = (Configuration when not (valid_settings c)) ∷ (Configuration when not (usable h)) ∷ []

-- where it is refused, the settings and the step stand in the record as they were handed over
unfoldable pub new : ControllerConfig → Float → Answered AdaptiveController
new c h = unless_refused (kept (fresh c h)) (first_of (new_tests c h)) (done (started c h))

abbrev pub reset_tests : AdaptiveController → Float → List Test
reset_tests k h = (Configuration when not (sound k)) ∷ (Configuration when not (usable h)) ∷ []

unfoldable pub reset : AdaptiveController → Float → Answered AdaptiveController
reset k h = unless_refused (kept k) (first_of (reset_tests k h)) (done (started k.config h))

-- the next step is usable and within the limits, the past errors are valid, and rejections are counted where they are marked
unfoldable pub restorable : ControllerConfig → ControllerState → Bool
restorable c s =
    usable s.next_step && (valid_errors s.accepted_errors
    && ((le c.minimum_step (abs s.next_step) && le (abs s.next_step) c.maximum_step)
    && beq s.rejected_since_acceptance (ltb 0 s.consecutive_rejections)))

abbrev pub restore_tests : AdaptiveController → ControllerState → List Test
restore_tests k s = (Configuration when not (sound k)) ∷ (Configuration when not (restorable k.config s)) ∷ []

unfoldable pub restore : AdaptiveController → ControllerState → Answered AdaptiveController
restore k s = unless_refused (kept k) (first_of (restore_tests k s)) (done (controller_of k.config s))

-- ---- what the Rust's config, state and next_step read

unfoldable pub read_config : AdaptiveController → Answered ControllerConfig
read_config k = record { value = k.config; answer = first_of (sound_tests k) }

unfoldable pub read_state : AdaptiveController → Answered ControllerState
read_state k = record { value = k.state; answer = first_of (sound_tests k) }

unfoldable pub read_next_step : AdaptiveController → Result Float Refusal
read_next_step k = unless_refused Err (first_of (sound_tests k)) (Ok k.state.next_step)
