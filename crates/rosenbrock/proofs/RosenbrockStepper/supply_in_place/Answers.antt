-- `rosenbrock::RosenbrockStepper::supply_in_place` meets its contract. Assumes nothing.
use mathlib.Core.Path.{refl, sym, ◌∙◌}
use lib.Seq.{length-take-le}
use Rattle.std.proofs.lemmas.Result.{err_from_is_err_and}
use Rattle.refusals.proofs.Phases.{answered, refuses}
use Rattle.rosenbrock.proofs.Attempts.{supply_refused, supply_shape, work_lent, roomy, answers, supply_done}
use Rattle.rosenbrock.proofs.RosenbrockStepper.supply_in_place.Goals as goal

pub returns-in_err-ask : goal.returns-in_err-ask
returns-in_err-ask c =
    let a = c.args in
    let e = rw c.lent.ensures at c.supply.ensures in
    let p = err_from_is_err_and c.from_residual.result c.from_residual.ensures.1 in
    rw (p.1, p.2) (supply_refused a.self.now a.state.now a.work.now a.pivots.now a.file.now a.values.now refl (refuses _ _ (sym e ∙ c.in_err-ask.was)))

pub needed_work-need-requires : goal.needed_work-need-requires
needed_work-need-requires c =
    let a = c.args in
    let e = rw c.lent.ensures at c.supply.ensures in
    let t = answered _ _ (sym e ∙ c.in_ok-ask.was) in
    let f = supply_shape a.self.now a.state.now a.work.now a.pivots.now a.file.now a.values.now refl t.0 in
    (f.n_to_32, f.s_to_8)

pub slice_bounds-resume-end : goal.slice_bounds-resume-end
slice_bounds-resume-end c =
    let a = c.args in
    let e = rw c.lent.ensures at c.supply.ensures in
    let t = answered _ _ (sym e ∙ c.in_ok-ask.was) in
    work_lent a.self.now a.state.now a.work.now a.pivots.now (supply_shape a.self.now a.state.now a.work.now a.pivots.now a.file.now a.values.now refl t.0) a.self.now.progress c.setting_of-setting.ensures c.needed_work-need.ensures

pub slice_bounds-resume-end-2 : goal.slice_bounds-resume-end-2
slice_bounds-resume-end-2 c =
    let a = c.args in
    let e = rw c.lent.ensures at c.supply.ensures in
    let t = answered _ _ (sym e ∙ c.in_ok-ask.was) in
    sym (length-take-le _ _ (work_lent a.self.now a.state.now a.work.now a.pivots.now (supply_shape a.self.now a.state.now a.work.now a.pivots.now a.file.now a.values.now refl t.0) a.self.now.progress c.setting_of-setting.ensures c.needed_work-need.ensures))

pub resume-moved-requires : goal.resume-moved-requires
resume-moved-requires c =
    let a = c.args in
    let e = rw c.lent.ensures at c.supply.ensures in
    let t = answered _ _ (sym e ∙ c.in_ok-ask.was) in
    let r = roomy a.self.now a.state.now a.work.now a.pivots.now (supply_shape a.self.now a.state.now a.work.now a.pivots.now a.file.now a.values.now refl t.0) a.self.now.progress c.setting_of-setting.ensures c.needed_work-need.ensures in
    (r.0, record { some = r.1; state = r.2 }, r.3, answers a.self.now a.state.now a.work.now a.pivots.now a.file.now a.values.now refl t.0 c.setting_of-setting.ensures (sym t.1))

pub returns : goal.returns
returns c =
    let a = c.args in
    let e = rw c.lent.ensures at c.supply.ensures in
    let t = answered _ _ (sym e ∙ c.in_ok-ask.was) in
    supply_done a.self.now a.state.now a.work.now a.pivots.now a.file.now a.values.now refl t.0 _ _ _ c.needed_work-need.ensures c.setting_of-setting.ensures (sym t.1) c.resume-moved.ensures c.settle.ensures
