-- A stepper with its memory as a call leaves it, and the call as the definitions have it on the needed memory. Assumes nothing.
use mathlib.Core.Path.{◌≡◌, sym, ap, ◌∙◌}
use Rattle.refusals.specs.declared.Fixed.{Fixed}
use Rattle.refusals.specs.declared.Progress.{Progress}
use Rattle.refusals.specs.Answers.{Lent}
use Rattle.rosenbrock.specs.Calls.{Out}
use Rattle.rosenbrock.specs.Stepper.{Call, called, System, Next, needed, trimmed, result, stepped}
use Rattle.rosenbrock.proofs.Memory.{memory_after}

pub record Stands (fx : Fixed) (r : Next) (o : Out) : Type 0 where
  pub fixed : r.system.stepper.fixed ≡ fx
  pub progress : r.system.stepper.progress ≡ o.progress
  pub lent : trimmed (needed fx) r.system.lent ≡ o.lent
  pub answer : r.answer ≡ o.answer

module _ (c : Call) (y : System) (fx : Fixed) (x : Progress) (m : Lent) (f : y.stepper.fixed ≡ fx) (g : y.stepper.progress ≡ x) (h : trimmed (needed fx) y.lent ≡ m) where
  result_is : result c y ≡ called fx c x m
  unfolding result
  result_is =
      ap (λ (z : Fixed). called z c y.stepper.progress (trimmed (needed z) y.lent)) f
      ∙ ap (λ (z : Progress). called fx c z (trimmed (needed fx) y.lent)) g
      ∙ ap (called fx c x) h

  memory_is : trimmed (needed fx) (stepped c y).system.lent ≡ (called fx c x m).lent
  memory_is =
      ap (λ (z : Fixed). trimmed (needed z) (stepped c y).system.lent) (sym f) ∙ memory_after c y ∙ ap (λ (o : Out). o.lent) result_is

  pub after_stands : Stands fx (stepped c y) (called fx c x m)
  unfolding stepped
  after_stands =
      record {
        fixed = f;
        progress = ap (λ (o : Out). o.progress) result_is;
        lent = memory_is;
        answer = ap (λ (o : Out). o.answer) result_is;
      }
