-- `linear::Matrix::interchange_rows` meets its contract: the columns passed are interchanged. Assumes nothing.
use native.Mathlib.Omega.{arith}
use Rattle.linear.proofs.Exchanges.{interchanged_more}
use Rattle.linear.proofs.matrix.Matrix.interchange_rows.Goals as goal

pub loop-column-preserved : goal.loop-column-preserved
loop-column-preserved c =
    let s = c.args in
    let l = c.loop-column in
    interchanged_more s.self.now.n s.k s.p (omega arith) (omega arith) s.self.now.entries.now l.entries l.column (omega arith) (omega arith) c.swap.ensures.after l.invariant
