-- The counters of a stepper, and what a call adds to them, each by one at most. Definitions only.
use Rattle.std.specs.Prelude.{ℕ, Bool, true, false, cond, Result, Ok, Err}
use Rattle.float.specs.Counter.{saturating_increment}
use Rattle.stepping.specs.declared.Refusal.{Refusal}
use Rattle.attempts.specs.Marks.{Counted}
use Rattle.attempts.specs.declared.Halt.{Halt}
use Rattle.attempts.specs.declared.Halt.TheVariants.{Derivative, Jacobian, TimePartial, FirstProbe, SecondProbe, Column, Stage, Shows}
use Rattle.statistics.specs.declared.StepStatistics.{StepStatistics}

unfoldable pub one_more : Bool → ℕ → ℕ
one_more b k = cond b (saturating_increment k) k

unfoldable pub tallied : Counted → StepStatistics → StepStatistics
tallied c t =
    record {
      attempts = one_more c.attempts t.attempts;
      rhs_evaluations = one_more c.rhs_evaluations t.rhs_evaluations;
      accepted_steps = one_more c.accepted_steps t.accepted_steps;
      rejected_steps = one_more c.rejected_steps t.rejected_steps;
      jacobian_evaluations = one_more c.jacobian_evaluations t.jacobian_evaluations;
      factorizations = one_more c.factorizations t.factorizations;
      linear_solves = one_more c.linear_solves t.linear_solves;
    }

abbrev pub no_statistics : StepStatistics
no_statistics =
    record {
      attempts = 0;
      rhs_evaluations = 0;
      accepted_steps = 0;
      rejected_steps = 0;
      jacobian_evaluations = 0;
      factorizations = 0;
      linear_solves = 0;
    }

-- the derivative is asked for
abbrev pub asks_derivative : Result Halt Refusal → Bool
asks_derivative (Ok (Derivative time)) = true
asks_derivative (Ok (Jacobian time)) = false
asks_derivative (Ok (TimePartial time)) = false
asks_derivative (Ok (FirstProbe first second)) = true
asks_derivative (Ok (SecondProbe time)) = true
asks_derivative (Ok (Column k time)) = true
asks_derivative (Ok (Stage i time)) = true
asks_derivative (Ok (Shows error)) = false
asks_derivative (Err refusal) = false
