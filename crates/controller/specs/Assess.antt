-- Automatic step size control (Hairer, Nørsett and Wanner, Solving Ordinary Differential Equations I, II.4; PI and PID control: Hairer and Wanner II,
-- IV.2, and Gustafsson): what assess answers for a step h with the error err, and what it makes of the controller. The answer is a pure decision,
-- refused by the first of five tests that holds; the change of the state stands apart, and only a decision brings it about. Definitions only.
use Rattle.std.specs.Prelude.{ℕ, Bool, true, false, not, ◌&&◌, cond, List, [], ◌∷◌, Float}
use Rattle.std.specs.Float.Ieee.{le, ne}
use Rattle.std.specs.Float.Ieee.Scale.{finite}
use Rattle.float.specs.Operators.{𝟎}
use Rattle.float.specs.Methods.{abs, max_num, min_num}
use Rattle.float.specs.Counter.{saturating_increment}
use Rattle.vector.specs.Lists.{el}
use Rattle.stepping.specs.declared.Refusal.{Refusal}
use Rattle.stepping.specs.declared.Refusal.TheVariants.{Configuration}
use Rattle.stepping.specs.declared.Refusal.TheVariants as refusal
use Rattle.stepping.specs.Refusals.{Test, ◌when◌, first_of, unless_refused}
use Rattle.stepping.specs.Refusals as refusals
use Rattle.settings.specs.declared.ControllerConfig.{ControllerConfig}
use Rattle.settings.specs.declared.ControllerState.{ControllerState}
use Rattle.settings.specs.Constants.{largest}
use Rattle.settings.specs.Valid.{valid_settings, valid_errors}
use Rattle.proposal.specs.declared.StepDecision.{StepDecision}
use Rattle.proposal.specs.Rules.{is_accepted, at_minimum, decision}
use Rattle.controller.specs.declared.AdaptiveController.{AdaptiveController}
use Rattle.controller.specs.declared.Assessment.{Assessment}
use Rattle.controller.specs.declared.Assessment.TheVariants.{Decision, Refused, MinimumStep}
use Rattle.controller.specs.declared.Assessed.{Assessed}

-- ---- the tests

-- the settings are valid, and each past error is finite and positive
unfoldable pub sound : AdaptiveController → Bool
sound k = valid_settings k.config && valid_errors k.state.accepted_errors

-- what every call tests first
abbrev pub sound_tests : AdaptiveController → List Test
sound_tests k = (Configuration when not (sound k)) ∷ []

-- a finite number other than 0
unfoldable pub usable : Float → Bool
usable x = finite x && ne x 𝟎

-- such a step, and an error that is no NaN and not below 0
unfoldable pub measured : Float → Float → Bool
measured h err = usable h && le 𝟎 err

-- rejected, and no shorter step is allowed
unfoldable pub exhausted : ControllerConfig → Float → Float → Bool
exhausted c h err = not (is_accepted c h err) && at_minimum c h

-- rejected, and the next step is no shorter
unfoldable pub stuck : Float → StepDecision → Bool
stuck h d = not d.accepted && le (abs h) (abs d.next_step)

abbrev pub assess_tests : AdaptiveController → Float → Float → StepDecision → List Test
assess_tests k h err d =
    (Configuration when not (sound k))
    ∷ (Configuration when not (measured h err))
    ∷ (refusal.MinimumStep when exhausted k.config h err)
    ∷ (Configuration when not (usable d.next_step))
    ∷ (refusal.MinimumStep when stuck h d)
    ∷ []

-- ---- the answer

-- 16 carries the error
unfoldable pub refused : Float → Refusal → Assessment
refused err refusal.MinimumStep = MinimumStep err
refused err r = Refused r

unfoldable pub assessment : AdaptiveController → Float → Float → Float → Assessment
assessment k h err product =
    let d = decision k.config k.state h err product in
    unless_refused (refused err) (first_of (assess_tests k h err d)) (Decision d)

-- the number of each answer, 0 for a decision
unfoldable pub number : Assessment → ℕ
number (Decision d) = 0
number (Refused r) = refusals.number r
number (MinimumStep err) = refusals.number refusal.MinimumStep

-- ---- the change of the state

-- the error that the history takes up: at least the floor, at most the largest double
unfoldable pub accepted_error : ControllerConfig → Float → Float
accepted_error c err = min_num (max_num err c.error_history_floor) largest

-- the history moves on by one error
unfoldable pub accepted_state : ControllerConfig → ControllerState → Float → Float → ControllerState
accepted_state c s err next =
    record {
      accepted_errors = accepted_error c err ∷ el s.accepted_errors 0 ∷ [];
      rejected_since_acceptance = false;
      next_step = next;
      consecutive_rejections = 0;
    }

-- a rejected error does not enter the history
unfoldable pub rejected_state : ControllerState → Float → ControllerState
rejected_state s next =
    record {
      accepted_errors = s.accepted_errors;
      rejected_since_acceptance = true;
      next_step = next;
      consecutive_rejections = saturating_increment s.consecutive_rejections;
    }

unfoldable pub advanced : ControllerConfig → ControllerState → Float → StepDecision → ControllerState
advanced c s err d = cond d.accepted (accepted_state c s err d.next_step) (rejected_state s d.next_step)

unfoldable pub controller_of : ControllerConfig → ControllerState → AdaptiveController
controller_of c s = record { config = c; state = s }

-- a refusal changes nothing
unfoldable pub after : AdaptiveController → Float → Assessment → AdaptiveController
after k err (Decision d) = controller_of k.config (advanced k.config k.state err d)
after k err (Refused r) = k
after k err (MinimumStep e) = k

-- ---- the call

unfoldable pub assess : AdaptiveController → Float → Float → Float → Assessed
assess k h err product =
    let answer = assessment k h err product in
    record { controller = after k err answer; answer = answer }
