-- What the stepper's calls hand out, from what they answered. Assumes nothing.
use Prim.Native.Nat.{ℕ}
use mathlib.Core.Path.{◌≡◌, refl, sym, ap, ◌∙◌}
use mathlib.Core.List.{List}
use lib.Ieee.{Float}
use Rattle.std.specs.Prelude.{Result, Ok, Err}
use Rattle.stepping.specs.declared.Refusal.{Refusal}
use Rattle.rosenbrock.specs.declared.RosenbrockStepper.{RosenbrockStepper}
use Rattle.rosenbrock.specs.declared.Answer as code
use Rattle.rosenbrock.specs.declared.Answer.TheVariants.{Asked, Shown, Done}
use Rattle.rosenbrock.specs.declared.Outcome.{Outcome}
use Rattle.refusals.specs.Answers.{lending}
use Rattle.rosenbrock.specs.Outcomes.{answer_by, next_of, AfterMaking, made_by}
use Rattle.stepping.specs.Refusals.{number_of}
use Rattle.in_place.specs.Numbers.{kind_of, kind_in, number_in}
use Rattle.stepper_host.specs.declared.MakingAnswer.{MakingAnswer}
use Rattle.stepper_host.specs.Handed.{of_answer, of_outcome, step_handed, as_numbers, making_handed, of_made, of_making, making_as_numbers}

module _ (state work : List Float) (pivots : List ℕ) where
  by_answer : (y : RosenbrockStepper) (a : Result code.Answer Refusal) → step_handed (of_answer y a) (lending state work pivots) ≡ as_numbers (next_of (record { stepper = y; answer = a }) state work pivots)
  unfolding of_answer as_numbers next_of answer_by kind_of number_of kind_in number_in
  by_answer y (Err refusal) = refl
  by_answer y (Ok Asked) = refl
  by_answer y (Ok Shown) = refl
  by_answer y (Ok Done) = refl

  pub call_handed : (o : Outcome) → as_numbers (next_of o state work pivots) ≡ step_handed (of_outcome o) (lending state work pivots)
  unfolding of_outcome next_of
  call_handed o = sym (by_answer o.stepper o.answer)

  by_making : (r : Result RosenbrockStepper Refusal) → making_handed (of_making r) (lending state work pivots) ≡ making_as_numbers (made_by r state work pivots)
  unfolding of_making making_as_numbers of_made made_by
  by_making (Ok y) = refl
  by_making (Err refusal) = refl

  pub making_handed_out : (r : Result RosenbrockStepper Refusal) (x : MakingAnswer) (a : AfterMaking) → x ≡ of_making r → made_by r state work pivots ≡ a → making_handed x (lending state work pivots) ≡ making_as_numbers a
  making_handed_out r x a e h = ap (λ (z : MakingAnswer). making_handed z (lending state work pivots)) e ∙ by_making r ∙ ap making_as_numbers h
