-- `norm::sums` meets its contract. Assumes nothing.
use native.Mathlib.Omega.{arith}
use mathlib.Core.Path.{refl}
use Rattle.norm.specs.ErrorNorm.{ratio, sum_of_squares}
use Rattle.norm.proofs.Terms.{none_finite, squares_more, values_more, norm_more, all_tested, all_squared}
use Rattle.norm.proofs.sums.Goals as goal

pub loop-i-init : goal.loop-i-init
unfolding sum_of_squares
loop-i-init c = (λ h. none_finite _, λ h. (none_finite _, none_finite _), λ h k. refl)

pub loop-i-preserved : goal.loop-i-preserved
loop-i-preserved c =
    let l = c.loop-i in
    let a = c.args in
    let y = a.state.now in
    let z = a.candidate.now in
    let e = a.error.now in (
      squares_more e l.i l.squared_norm c.scale-scale.result l.invariant.0,
      values_more y z l.i l.values l.invariant.1,
      norm_more a.absolute a.relative y z e l.i l.squared_norm c.scale-scale.result l.invariant.2 c.scale-scale.ensures,
    )

pub returns-clause-tested : goal.returns-clause-tested
returns-clause-tested c =
    let l = c.loop-i in
    let a = c.args in
    all_tested a.state.now a.candidate.now a.error.now l.squared_norm l.values (omega (arith, l.auto.i-end, c.loop-i-test.false)) c.requires.0 c.requires.1 l.invariant.0 l.invariant.1

pub returns-clause-squared : goal.returns-clause-squared
returns-clause-squared c =
    let l = c.loop-i in
    let a = c.args in
    all_squared a.state.now a.candidate.now (ratio a.absolute a.relative a.state.now a.candidate.now a.error.now) l.squared_norm (omega (arith, l.auto.i-end, c.loop-i-test.false)) c.requires.0 l.invariant.2
