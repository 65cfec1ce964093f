-- What is handed to the host for each answer of the stepper: the record, a number for the kind of answer and the number of a refusal. Definitions only.
use Rattle.std.specs.Prelude.{false, Result, Ok, Err}
use Rattle.float.specs.Operators.{𝟎}
use Rattle.stepping.specs.declared.Refusal.{Refusal}
use Rattle.stepping.specs.Refusals.{number, number_of}
use Rattle.rosenbrock.specs.declared.RosenbrockStepper.{RosenbrockStepper}
use Rattle.rosenbrock.specs.declared.Answer as code
use Rattle.rosenbrock.specs.declared.Outcome.{Outcome}
use Rattle.refusals.specs.Answers.{Lent}
use Rattle.phases.specs.Phases.{fresh}
use Rattle.statistics.specs.Counters.{no_statistics}
use Rattle.rosenbrock.specs.Stepper.{Next, Made, not_made, made}
use Rattle.rosenbrock.specs.Outcomes.{AfterMaking}
use Rattle.in_place.specs.Numbers.{kind_of, kind_in, number_in}
use Rattle.stepper_host.specs.declared.StepperAnswer.{StepperAnswer}
use Rattle.stepper_host.specs.declared.MakingAnswer.{MakingAnswer}

-- ---- a call

unfoldable pub of_answer : RosenbrockStepper → Result code.Answer Refusal → StepperAnswer
of_answer y a = record { stepper = y; kind = kind_of a; number = number_of a }

unfoldable pub of_outcome : Outcome → StepperAnswer
unfolding of_answer
of_outcome r = of_answer r.stepper r.answer

-- the numbers, with the memory as the call leaves it
pub record StepHanded : Type 0 where
  pub answer : StepperAnswer
  pub lent : Lent

abbrev pub step_handed : StepperAnswer → Lent → StepHanded
step_handed r m = record { answer = r; lent = m }

-- the same of the definitions' answer
unfoldable pub as_numbers : Next → StepHanded
as_numbers r = step_handed (record { stepper = r.system.stepper; kind = kind_in r.answer; number = number_in r.answer }) r.system.lent

-- ---- a making

-- n and s are 0, so that every call refuses it with 1
unfoldable pub blank_stepper : RosenbrockStepper
blank_stepper =
    record {
      fixed =
          record {
            n = 0;
            s = 0;
            policy = record { scale = 𝟎; relative_step = 𝟎; maximum_fraction = 𝟎; bounds = record { present = false; lo = 𝟎; hi = 𝟎 } };
          };
      progress = fresh 𝟎;
      statistics = no_statistics;
    }

pub record MakingHanded : Type 0 where
  pub answer : MakingAnswer
  pub lent : Lent

abbrev pub making_handed : MakingAnswer → Lent → MakingHanded
making_handed r m = record { answer = r; lent = m }

unfoldable pub of_made : Made → MakingAnswer
of_made (made y) = record { stepper = y.stepper; number = 0 }
of_made (not_made refusal) = record { stepper = blank_stepper; number = number refusal }

-- the same of the code's answer
unfoldable pub of_making : Result RosenbrockStepper Refusal → MakingAnswer
of_making (Ok y) = record { stepper = y; number = 0 }
of_making (Err refusal) = record { stepper = blank_stepper; number = number refusal }

unfoldable pub making_as_numbers : AfterMaking → MakingHanded
making_as_numbers r = making_handed (of_made r.made) r.lent
