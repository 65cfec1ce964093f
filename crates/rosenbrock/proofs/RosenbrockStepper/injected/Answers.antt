-- `rosenbrock::RosenbrockStepper::injected` meets its contract. Assumes nothing.
use native.Mathlib.Omega.{arith}
use Rattle.std.proofs.lemmas.Result.{err_from_is_err_and}
use Rattle.attempts.specs.Marks.{with_caches}
use Rattle.rosenbrock.specs.Calls.{progress_after}
use Rattle.rosenbrock.specs.Outcomes.{done_by}
use Rattle.rosenbrock.proofs.Nexts.{inject_refused, inject_small, inject_room, inject_done}
use Rattle.rosenbrock.proofs.RosenbrockStepper.injected.Goals as goal

pub returns-in_err-inject : goal.returns-in_err-inject
unfolding done_by
returns-in_err-inject c =
    let a = c.args in
    let e = rw c.lent.ensures at c.inject.ensures in
    let p = err_from_is_err_and c.from_residual.result c.from_residual.ensures.1 in
    rw (p.1, p.2) (inject_refused a.self a.state.now a.work.now a.pivots.now a.derivative.now e c.in_err-inject.was)

pub overflow_mul-self : goal.overflow_mul-self
overflow_mul-self c =
    let a = c.args in
    let e = rw c.lent.ensures at c.inject.ensures in
    omega (arith, inject_small a.self a.state.now a.work.now a.pivots.now a.derivative.now e c.in_ok-inject.was)

pub put-requires : goal.put-requires
put-requires c =
    let a = c.args in
    let e = rw c.lent.ensures at c.inject.ensures in
    inject_room a.self a.state.now a.work.now a.pivots.now a.derivative.now e c.in_ok-inject.was

pub returns : goal.returns
unfolding done_by progress_after with_caches
returns c =
    let a = c.args in
    let e = rw c.lent.ensures at c.inject.ensures in
    inject_done a.self a.state.now a.work.now a.pivots.now a.derivative.now e c.in_ok-inject.was c.put.ensures
