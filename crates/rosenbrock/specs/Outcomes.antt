-- What the code hands back, in the terms of the definitions: record and lent memory as a system, and the answer with what it asks or shows.
-- Definitions only.
use Rattle.std.specs.Prelude.{ℕ, List, Float, Result, Ok, Err}
use Rattle.stepping.specs.declared.Refusal.{Refusal}
use Rattle.time_difference.specs.declared.TimeDifferencePolicy.{TimeDifferencePolicy}
use Rattle.attempts.specs.Attempt.{Ending, Asks, Ends, Shows, Stop}
use Rattle.refusals.specs.declared.Fixed.{Fixed}
use Rattle.refusals.specs.declared.Progress.{Progress}
use Rattle.statistics.specs.declared.StepStatistics.{StepStatistics}
use Rattle.rosenbrock.specs.declared.RosenbrockStepper.{RosenbrockStepper}
use Rattle.rosenbrock.specs.declared.Answer as code
use Rattle.rosenbrock.specs.declared.Answer.TheVariants.{Asked, Shown, Done}
use Rattle.rosenbrock.specs.declared.Outcome.{Outcome}
use Rattle.refusals.specs.Requests.{ask_of, request_after, stage_after}
use Rattle.refusals.specs.Answers.{Lent, lending, Answer, refused, asked, shown, done, request_of, view_of}
use Rattle.rosenbrock.specs.Calls.{progress_after}
use Rattle.statistics.specs.Counters.{tallied}
use Rattle.rosenbrock.specs.Stepper.{System, needed, trimmed, Next, Made, not_made, made, make}

-- a record with the memory lent to it
abbrev pub system_of : RosenbrockStepper → List Float → List Float → List ℕ → System
system_of y state work pivots = record { stepper = y; lent = lending state work pivots }

-- the answer; what is asked or shown is read from record and memory as the call leaves them
unfoldable pub answer_by : Result code.Answer Refusal → Fixed → Progress → Lent → Answer
answer_by (Err refusal) fx x m = refused refusal
answer_by (Ok Asked) fx x m = asked (request_of fx x m (ask_of x.request x.stage))
answer_by (Ok Shown) fx x m = shown (view_of fx x m)
answer_by (Ok Done) fx x m = done

-- the record as a call leaves it, and the answer
abbrev pub outcome : RosenbrockStepper → Result code.Answer Refusal → Outcome
outcome y a = record { stepper = y; answer = a }

-- a call's outcome, with state, work and pivots as it leaves them
unfoldable pub next_of : Outcome → List Float → List Float → List ℕ → Next
next_of r state work pivots =
    let fx = r.stepper.fixed in
    record {
      system = system_of r.stepper state work pivots;
      answer = answer_by r.answer fx r.stepper.progress (trimmed (needed fx) (lending state work pivots));
    }

-- a making's: a refused one has no record, and leaves the memory as it was
pub record AfterMaking : Type 0 where
  pub made : Made
  pub lent : Lent

abbrev pub after_making : Made → Lent → AfterMaking
after_making r m = record { made = r; lent = m }

unfoldable pub memory_after : Made → Lent → Lent
memory_after (not_made refusal) m = m
memory_after (made y) m = y.lent

unfoldable pub making_of : List ℕ → TimeDifferencePolicy → Float → Lent → AfterMaking
making_of file policy time m = let r = make file policy time m in after_making r (memory_after r m)

unfoldable pub made_by : Result RosenbrockStepper Refusal → List Float → List Float → List ℕ → AfterMaking
made_by (Ok y) state work pivots = after_making (made (system_of y state work pivots)) (lending state work pivots)
made_by (Err refusal) state work pivots = after_making (not_made refusal) (lending state work pivots)

-- ---- parts of the calls, as the code has them

-- what is answered where it stopped, and the record there
unfoldable pub answer_after : Ending → Result code.Answer Refusal
answer_after (Asks a) = Ok Asked
answer_after (Ends refusal) = Err refusal
answer_after Shows = Ok Shown

unfoldable pub outcome_after : Fixed → Progress → StepStatistics → Stop → Outcome
outcome_after fx x t r =
    let ending = r.ending in
    record {
      stepper =
          record {
            fixed = fx;
            progress = progress_after x r.marks.memo (request_after ending) (stage_after ending);
            statistics = tallied r.marks.counted t;
          };
      answer = answer_after ending;
    }

-- what a call that is done where it is not refused makes of the record: a refusal leaves it
unfoldable pub done_by : RosenbrockStepper → Result RosenbrockStepper Refusal → Outcome
done_by y (Ok z) = record { stepper = z; answer = Ok Done }
done_by y (Err refusal) = record { stepper = y; answer = Err refusal }
