-- `rosenbrock::RosenbrockStepper::step_to` meets its contract. Assumes nothing.
use mathlib.Core.Path.{sym, ◌∙◌}
use Rattle.std.specs.Prelude.{Err}
use Rattle.std.proofs.lemmas.Result.{err_from_is_err_and}
use Rattle.stepping.proofs.Refusals.{is_refused, is_answered}
use Rattle.rosenbrock.proofs.RosenbrockStepper.step_to.Goals as goal

pub returns-in_err-attempt : goal.returns-in_err-attempt
returns-in_err-attempt c =
    let e = rw c.lent.ensures at c.attempt.ensures in
    let p = err_from_is_err_and c.from_residual.result c.from_residual.ensures.1 in
    rw (p.1, p.2) (is_refused Err _ (sym e ∙ c.in_err-attempt.was))

pub returns : goal.returns
returns c =
    let e = rw c.lent.ensures at c.attempt.ensures in
    is_answered Err (sym e ∙ c.in_ok-attempt.was) c.endpoint_step.ensures
