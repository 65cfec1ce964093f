-- What is handed to the host for each answer: the refusal's number, 0 for none; how many values there are, where it may be two; the values, 0 for
-- one that is not there.
-- Definitions only.
use Rattle.std.specs.Prelude.{Bool, false, Float, Option, Some, None, Result, Ok, Err}
use Rattle.float.specs.Operators.{𝟎}
use Rattle.stepping.specs.declared.Refusal.{Refusal}
use Rattle.stepping.specs.declared.Refusal.TheVariants as refusals
use Rattle.stepping.specs.Refusals.{number}
use Rattle.time_difference.specs.declared.TimeDifferencePolicy.{TimeDifferencePolicy}
use Rattle.settings.specs.declared.ControllerState.{ControllerState}
use Rattle.controller.specs.declared.Assessment.{Assessment}
use Rattle.controller.specs.declared.Assessment.TheVariants.{Decision, Refused, MinimumStep}
use Rattle.controller.specs.declared.Assessed.{Assessed}
use Rattle.host.specs.declared.AssessAnswer.{AssessAnswer}
use Rattle.host.specs.declared.SameAnswer.{SameAnswer}
use Rattle.host.specs.declared.Answer.{Answer}
use Rattle.host.specs.declared.ProbeTimes.{ProbeTimes}

-- of checked_time, endpoint_step, the norm, a first step and the controller's next step
unfoldable pub of_answer : Result Float Refusal → Answer
of_answer (Ok x) = record { number = 0; value = x }
of_answer (Err refusal) = record { number = number refusal; value = 𝟎 }

unfoldable pub of_probes : Result (Float × Option Float) Refusal → ProbeTimes
of_probes (Ok (first, None)) = record { number = 0; count = 1; first = first; second = 𝟎 }
of_probes (Ok (first, Some second)) = record { number = 0; count = 2; first = first; second = second }
of_probes (Err refusal) = record { number = number refusal; count = 0; first = 𝟎; second = 𝟎 }

unfoldable pub of_sameness : Result Bool Refusal → SameAnswer
of_sameness (Ok same) = record { number = 0; same = same }
of_sameness (Err refusal) = record { number = number refusal; same = false }

-- the controller's state after the call (its settings stay), with what was decided, or the number of the refusal, and the error with 16
unfoldable pub of_assessment : ControllerState → Assessment → AssessAnswer
of_assessment s (Decision d) =
    record { state = s; number = 0; accepted = d.accepted; forced = d.forced; next_step = d.next_step; error = 𝟎 }
of_assessment s (Refused refusal) =
    record { state = s; number = number refusal; accepted = false; forced = false; next_step = 𝟎; error = 𝟎 }
of_assessment s (MinimumStep err) =
    record { state = s; number = number refusals.MinimumStep; accepted = false; forced = false; next_step = 𝟎; error = err }

unfoldable pub of_assessed : Assessed → AssessAnswer
unfolding of_assessment
of_assessed a = of_assessment a.controller.state a.answer

-- the policy that the host hands over as its numbers
abbrev pub policy_of : Float → Float → Float → Bool → Float → Float → TimeDifferencePolicy
policy_of scale relative fraction bounded lo hi =
    record {
      scale = scale;
      relative_step = relative;
      maximum_fraction = fraction;
      bounds = record { present = bounded; lo = lo; hi = hi };
    }
