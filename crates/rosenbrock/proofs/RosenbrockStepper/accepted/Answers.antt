-- `rosenbrock::RosenbrockStepper::accepted` meets its contract. Assumes nothing.
use mathlib.Core.Path.{sym, ◌∙◌}
use Rattle.std.proofs.lemmas.Result.{err_from_is_err_and}
use Rattle.rosenbrock.specs.Outcomes.{done_by}
use Rattle.rosenbrock.proofs.Nexts.{accept_refused, candidate_long, state_long, accept_done}
use Rattle.rosenbrock.proofs.RosenbrockStepper.accepted.Goals as goal

pub returns-in_err-decision : goal.returns-in_err-decision
unfolding done_by
returns-in_err-decision c =
    let a = c.args in
    let p = err_from_is_err_and c.from_residual.result c.from_residual.ensures.1 in
    rw (p.1, p.2) (accept_refused a.self a.state.now a.work.now a.pivots.now (rw c.lent.ensures at c.decision.ensures) c.in_err-decision.was)

pub slice_bounds-copy-end : goal.slice_bounds-copy-end
slice_bounds-copy-end c = let a = c.args in sym (candidate_long a.self a.state.now a.work.now a.pivots.now (rw c.lent.ensures at c.decision.ensures) c.in_ok-decision.was)

pub copy-requires : goal.copy-requires
copy-requires c =
    let a = c.args in
    let e = rw c.lent.ensures at c.decision.ensures in
    state_long a.self a.state.now a.work.now a.pivots.now e c.in_ok-decision.was ∙ sym (candidate_long a.self a.state.now a.work.now a.pivots.now e c.in_ok-decision.was)

pub returns : goal.returns
unfolding done_by
returns c =
    let a = c.args in
    accept_done a.self a.state.now a.work.now a.pivots.now (rw c.lent.ensures at c.decision.ensures) c.in_ok-decision.was c.memo_accepted.ensures c.copy.ensures c.saturating_add.ensures
