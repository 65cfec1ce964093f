-- `rosenbrock::RosenbrockStepper::attempt_in_place` meets its contract. Assumes nothing.
use Rattle.refusals.proofs.Fitting.{shape_fits_lem}
use Rattle.std.proofs.lemmas.Result.{err_from_is_err_and}
use Rattle.rosenbrock.proofs.Attempts.{attempt_refused, attempt_shape, attempt_done}
use Rattle.rosenbrock.proofs.RosenbrockStepper.attempt_in_place.Goals as goal

pub returns-in_err-attempt : goal.returns-in_err-attempt
returns-in_err-attempt c =
    let a = c.args in
    let e = rw c.lent.ensures at c.attempt.ensures in
    let p = err_from_is_err_and c.from_residual.result c.from_residual.ensures.1 in
    rw (p.1, p.2) (attempt_refused a.self.now a.state.now a.work.now a.pivots.now a.file.now a.host_jacobian a.host_time_partial e a.step c.in_err-attempt.was)

pub attempt_by-requires : goal.attempt_by-requires
attempt_by-requires c =
    let a = c.args in
    let e = rw c.lent.ensures at c.attempt.ensures in
    shape_fits_lem _ _ _ _ _ (attempt_shape a.self.now a.state.now a.work.now a.pivots.now a.file.now a.host_jacobian a.host_time_partial e c.in_ok-attempt.was)

pub returns : goal.returns
returns c =
    let a = c.args in
    let e = rw c.lent.ensures at c.attempt.ensures in
    attempt_done a.self.now a.state.now a.work.now a.pivots.now a.file.now a.host_jacobian a.host_time_partial e a.step c.in_ok-attempt.was c.attempt_by.ensures
