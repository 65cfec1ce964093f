-- `linear::Matrix::column_pivot` meets its contract: the best of the rows passed. Assumes nothing.
use Prim.Native.Nat.{◌+◌}
use native.Mathlib.Omega.{arith}
use mathlib.Core.Path.{sym, ap, ◌∙◌}
use lib.Ieee.{Float, lt}
use Rattle.vector.specs.Matrices.{entry}
use Rattle.linear.proofs.Pivoting.{search_start, search_larger, search_kept}
use Rattle.linear.proofs.matrix.Matrix.column_pivot.Goals.{then-magnitude-pivot, else-magnitude-pivot}
use Rattle.linear.proofs.matrix.Matrix.column_pivot.Goals as goal

pub loop-row-init : goal.loop-row-init
loop-row-init c = let s = c.args in let m = s.self.now in (sym (search_start (entry m.n m.entries.now) s.column (s.column + 1) (omega arith)), c.abs.ensures)

pub loop-row-preserved : goal.loop-row-preserved
loop-row-preserved c =
    let s = c.args in
    let l = c.loop-row in
    let m = s.self.now in
    let a = entry m.n m.entries.now in
    let v = c.abs-magnitude.ensures in
    elim c.if-magnitude-pivot.branch [
      | then-magnitude-pivot w ↦
          rw w.pivot-is (search_larger a s.column l.row (omega arith) l.invariant.0 l.invariant.1 (ap (λ (x : Float). lt l.pivot.magnitude x) (sym v) ∙ w.if-magnitude-pivot.true), v)
      | else-magnitude-pivot w ↦
          rw w.pivot-is (search_kept a s.column l.row (omega arith) l.invariant.0 l.invariant.1 (ap (λ (x : Float). lt l.pivot.magnitude x) (sym v) ∙ w.if-magnitude-pivot.false), l.invariant.1)
    ]
