use Rattle.std.proofs.Common.{◌≡◌, refl, arith, ap, Float, zero-mul}
use Rattle.float.specs.Operators.{◌⊗◌}
use Rattle.tableau.specs.File.{tableau_of}
use Rattle.stages.specs.Memory.{with_matrix}
use Rattle.vector.proofs.Loops.{puts_none}
use Rattle.stages.proofs.Matrix.{entry_more}
use Rattle.stages.proofs.work.Work.fill_matrix.Goals as goal

pub loop-row-init : goal.loop-row-init
loop-row-init c = let e = zero-mul c.args.self.now.layout.n in rw e (puts_none _ _ _)

pub loop-column-preserved : goal.loop-column-preserved
loop-column-preserved c =
    let w = c.args.self.now in
    entry_more w.layout.n (tableau_of c.args.file.now) c.args.step w.cells.now c.loop-row.row c.loop-column.column (omega arith) (omega arith)
    c.loop-column.invariant c.factors-to.ensures.0 c.jacobian-from.ensures.0 (ap (λ (z : Float). c.args.step ⊗ z) c.gamma.ensures) c.unit.ensures

pub returns : goal.returns
unfolding with_matrix
returns c = let e : c.loop-row.row ≡ c.args.self.now.layout.n = omega arith in (rw e at c.loop-row.invariant, (refl, refl))
