-- `lists::run` makes the calls in their order: what it carries is what the last of them left. Assumes nothing.
use mathlib.Core.Path.{refl, ap, ◌∙◌}
use Rattle.rosenbrock.specs.Outcomes.{next_of}
use Rattle.rosenbrock.specs.Stepper.{Next}
use Rattle.lists.proofs.Running.{last_after, one_made, none_left}
use Rattle.lists.proofs.run.Goals as goal

pub loop-entry-init : goal.loop-entry-init
loop-entry-init c = refl

pub loop-entry-preserved : goal.loop-entry-preserved
unfolding next_of
loop-entry-preserved c = one_made c.args.file.now c.args.entries.now _ _ _ c.loop-entry.invariant _ _ c.loop-entry-test.true c.dispatch-last.ensures

pub returns : goal.returns
unfolding next_of
returns c =
    let e = none_left c.args.file.now c.args.entries.now _ _ _ c.loop-entry.invariant c.loop-entry-test.false in
    record { last_is = e; all_made = ap (λ (r : Next). r.system) e ∙ last_after _ _ }
