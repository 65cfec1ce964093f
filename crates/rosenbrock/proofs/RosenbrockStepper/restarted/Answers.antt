-- `rosenbrock::RosenbrockStepper::restarted` meets its contract. Assumes nothing.
use mathlib.Core.Path.{sym}
use lib.Seq.{length-take-le}
use Rattle.std.proofs.lemmas.Result.{err_from_is_err_and}
use Rattle.refusals.proofs.Tested.{lent_work}
use Rattle.rosenbrock.specs.Outcomes.{done_by}
use Rattle.rosenbrock.proofs.Nexts.{reset_refused, reset_shape, reset_length, reset_done}
use Rattle.rosenbrock.proofs.RosenbrockStepper.restarted.Goals as goal

pub returns-in_err-reset : goal.returns-in_err-reset
unfolding done_by
returns-in_err-reset c =
    let a = c.args in
    let e = rw c.lent.ensures at c.reset.ensures in
    let p = err_from_is_err_and c.from_residual.result c.from_residual.ensures.1 in
    rw (p.1, p.2) (reset_refused a.self a.state.now a.work.now a.pivots.now a.time a.values.now e c.in_err-reset.was)

pub copy-requires : goal.copy-requires
copy-requires c =
    let a = c.args in
    let e = rw c.lent.ensures at c.reset.ensures in
    reset_length a.self a.state.now a.work.now a.pivots.now a.time a.values.now e c.in_ok-reset.was

pub needed_work-requires : goal.needed_work-requires
needed_work-requires c =
    let a = c.args in
    let e = rw c.lent.ensures at c.reset.ensures in
    let f = reset_shape a.self a.state.now a.work.now a.pivots.now a.time a.values.now e c.in_ok-reset.was in
    (f.n_to_32, f.s_to_8)

pub slice_bounds-fill-end : goal.slice_bounds-fill-end
slice_bounds-fill-end c =
    let a = c.args in
    let e = rw c.lent.ensures at c.reset.ensures in
    rw c.needed_work.ensures (lent_work (reset_shape a.self a.state.now a.work.now a.pivots.now a.time a.values.now e c.in_ok-reset.was))

pub slice_bounds-fill-end-2 : goal.slice_bounds-fill-end-2
slice_bounds-fill-end-2 c =
    let a = c.args in
    let e = rw c.lent.ensures at c.reset.ensures in
    sym (length-take-le _ _ (rw c.needed_work.ensures (lent_work (reset_shape a.self a.state.now a.work.now a.pivots.now a.time a.values.now e c.in_ok-reset.was))))

pub returns : goal.returns
unfolding done_by
returns c =
    let a = c.args in
    let e = rw c.lent.ensures at c.reset.ensures in
    reset_done a.self a.state.now a.work.now a.pivots.now a.time a.values.now e c.in_ok-reset.was c.needed_work.ensures c.fresh.ensures c.copy.ensures (c.fill.ensures.after (λ y h. h)) (c.fill-2.ensures.after (λ y h. h))
