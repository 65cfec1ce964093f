-- `linear::interchange_all` meets its contract: the interchanges of the rows passed are done. Assumes nothing.
use native.Mathlib.Omega.{arith}
use mathlib.Core.Path.{refl}
use Rattle.linear.specs.Substitution.{interchanges}
use Rattle.linear.proofs.Exchanges.{interchanges_more}
use Rattle.linear.proofs.factors.interchange_all.Goals as goal

pub loop-row-init : goal.loop-row-init
unfolding interchanges
loop-row-init c = refl

pub loop-row-preserved : goal.loop-row-preserved
loop-row-preserved c =
    let s = c.args in
    let l = c.loop-row in
    interchanges_more s.pivots.now s.x.now l.x l.row l.invariant (omega arith) (omega (arith, c.requires.2 l.row)) c.swap.ensures.after
