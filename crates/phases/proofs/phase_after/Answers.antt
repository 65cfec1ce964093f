-- `phases::phase_after` meets its contract. Assumes nothing.
use mathlib.Core.Path.{sym, ap}
use Rattle.std.specs.Prelude.{Some, None}
use Rattle.refusals.specs.Requests.{phase_after}
use Rattle.phases.proofs.Halts.{ends_asked, ends_refused}
use Rattle.phases.proofs.phase_after.Goals as goal

pub returns-in-Some : goal.returns-in-Some
unfolding phase_after
returns-in-Some c = λ m. sym (ap phase_after (ends_asked c.args.moved.now m (Some c.in-Some.ask) c.in-Ok.is c.in-Some.ensures))

pub returns-in-None : goal.returns-in-None
unfolding phase_after
returns-in-None c = λ m. sym (ap phase_after (ends_asked c.args.moved.now m None c.in-Ok.is c.in-None.ensures))

pub returns-in-Err : goal.returns-in-Err
unfolding phase_after
returns-in-Err c = λ m. sym (ap phase_after (ends_refused c.args.moved.now m c.in-Err.is))
