-- A call that only reads leaves record and memory as they were. Assumes nothing.
use Prim.Native.Nat.{ℕ}
use mathlib.Core.Path.{◌≡◌, refl, ◌∙◌}
use lib.ListN.{take-append-drop}
use Rattle.attempts.specs.Marks.{Counted}
use Rattle.attempts.specs.Marks.{nothing_counted}
use Rattle.refusals.specs.declared.Fixed.{Fixed}
use Rattle.refusals.specs.declared.Progress.{Progress}
use Rattle.statistics.specs.declared.StepStatistics.{StepStatistics}
use Rattle.refusals.specs.Answers.{Lent}
use Rattle.rosenbrock.specs.Calls.{Out, refusal}
use Rattle.rosenbrock.specs.Readers.{Query, answered, read_of}
use Rattle.statistics.specs.Counters.{one_more, tallied}
use Rattle.rosenbrock.specs.Stepper.{read, called, System, needed, trimmed, untrimmed, result, stepped}
use Rattle.rosenbrock.proofs.Guards.{guarded_either}

record Leaves (x : Progress) (m : Lent) (o : Out) : Type 0 where
  progress : o.progress ≡ x
  lent : o.lent ≡ m
  counted : o.counted ≡ nothing_counted

read_leaves : (q : Query) (fx : Fixed) (x : Progress) (m : Lent) → Leaves x m (read_of q fx x m)
unfolding read_of refusal answered
read_leaves q fx x m =
    guarded_either _ x m (answered q fx x m) (λ (o : Out). Leaves x m o)
    (λ k. record { progress = refl; lent = refl; counted = refl })
    (λ _. record { progress = refl; lent = refl; counted = refl })

tallied_nothing : (t : StepStatistics) → tallied nothing_counted t ≡ t
unfolding tallied one_more
tallied_nothing t = refl

pub untrimmed_same : (k : ℕ) (m : Lent) → untrimmed k m (trimmed k m) ≡ m
unfolding untrimmed trimmed
untrimmed_same k m = λ i. record { state = m.state; work = take-append-drop k m.work i; pivots = m.pivots }

-- a stepper and its memory after a call that handed back x, c and m
after : System → Progress → Counted → Lent → System
after y x c m =
    record {
      stepper = record { fixed = y.stepper.fixed; progress = x; statistics = tallied c y.stepper.statistics };
      lent = untrimmed (needed y.stepper.fixed) y.lent m;
    }

after_nothing : (y : System) → after y y.stepper.progress nothing_counted (trimmed (needed y.stepper.fixed) y.lent) ≡ y
unfolding after
after_nothing y =
    λ i. record {
      stepper = record { fixed = y.stepper.fixed; progress = y.stepper.progress; statistics = tallied_nothing y.stepper.statistics i };
      lent = untrimmed_same (needed y.stepper.fixed) y.lent i;
    }

pub read_unchanged : (q : Query) (y : System) → (stepped (read q) y).system ≡ y
unfolding stepped result called after
read_unchanged q y =
    let e = read_leaves q y.stepper.fixed y.stepper.progress (trimmed (needed y.stepper.fixed) y.lent) in
    (λ i. after y (e.progress i) (e.counted i) (e.lent i)) ∙ after_nothing y
