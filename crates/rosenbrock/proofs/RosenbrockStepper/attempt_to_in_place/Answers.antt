-- `rosenbrock::RosenbrockStepper::attempt_to_in_place` meets its contract. Assumes nothing.
use Rattle.refusals.proofs.Fitting.{shape_fits_lem}
use Rattle.std.proofs.lemmas.Result.{err_from_is_err_and}
use Rattle.rosenbrock.proofs.Attempts.{towards_shape, towards_step, towards_refused}
use Rattle.rosenbrock.proofs.RosenbrockStepper.attempt_to_in_place.Goals as goal

pub returns-in_err-step : goal.returns-in_err-step
returns-in_err-step c =
    let a = c.args in
    let p = err_from_is_err_and c.from_residual.result c.from_residual.ensures.1 in
    rw (p.1, p.2) (towards_refused a.self.now a.state.now a.work.now a.pivots.now a.file.now a.host_jacobian a.host_time_partial a.endpoint a.proposal c.step_to.ensures c.in_err-step.was)

pub attempt_by-requires : goal.attempt_by-requires
attempt_by-requires c =
    let a = c.args in
    shape_fits_lem _ _ _ _ _ (towards_shape a.self.now a.state.now a.work.now a.pivots.now a.file.now a.host_jacobian a.host_time_partial a.endpoint a.proposal c.step_to.ensures c.in_ok-step.was)

pub returns : goal.returns
returns c =
    let a = c.args in
    towards_step a.self.now a.state.now a.work.now a.pivots.now a.file.now a.host_jacobian a.host_time_partial a.endpoint a.proposal c.step_to.ensures c.in_ok-step.was c.attempt_by.ensures
