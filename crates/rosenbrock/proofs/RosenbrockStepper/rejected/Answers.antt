-- `rosenbrock::RosenbrockStepper::rejected` meets its contract. Assumes nothing.
use Rattle.std.proofs.lemmas.Result.{err_from_is_err_and}
use Rattle.rosenbrock.specs.Outcomes.{done_by}
use Rattle.rosenbrock.proofs.Nexts.{reject_refused, reject_done}
use Rattle.rosenbrock.proofs.RosenbrockStepper.rejected.Goals as goal

pub returns-in_err-decision : goal.returns-in_err-decision
unfolding done_by
returns-in_err-decision c =
    let a = c.args in
    let p = err_from_is_err_and c.from_residual.result c.from_residual.ensures.1 in
    rw (p.1, p.2) (reject_refused a.self a.state.now a.work.now a.pivots.now (rw c.lent.ensures at c.decision.ensures) c.in_err-decision.was)

pub returns : goal.returns
unfolding done_by
returns c =
    let a = c.args in
    rw c.closed.ensures (reject_done a.self a.state.now a.work.now a.pivots.now (rw c.lent.ensures at c.decision.ensures) c.in_ok-decision.was c.saturating_add.ensures)
