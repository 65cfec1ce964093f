-- `evaluations::resume_on` meets its contract. Assumes nothing.
use mathlib.Core.Path.{sym, ◌∙◌}
use Rattle.evaluations.proofs.Supplies.{refused}
use Rattle.evaluations.proofs.resume_on.Goals as goal

pub returns-in-Err : goal.returns-in-Err
returns-in-Err c = rw c.nothing.ensures (refused c.args.given.now c.args.ask c.args.values.now c.args.memo.now c.args.pivots.now c.args.work.now c.store.new.work c.requires.0 c.requires.2.values c.store.ensures (sym c.in-Err.is ∙ c.finite.ensures))
