-- `linear::Matrix::subtract_row` meets its contract: the columns passed are written. Assumes nothing.
use Prim.Native.Nat.{ℕ}
use native.Mathlib.Omega.{arith}
use lib.Ieee.{Float}
use Rattle.float.specs.Operators.{◌⊖◌, ◌⊗◌}
use Rattle.vector.specs.Matrices.{entry}
use Rattle.linear.proofs.Updates.{written_more, read_at}
use Rattle.linear.proofs.matrix.Matrix.subtract_row.Goals as goal

pub loop-column-preserved : goal.loop-column-preserved
loop-column-preserved c =
    let s = c.args in
    let l = c.loop-column in
    let n = s.self.now.n in
    let m = s.self.now.entries.now in
    let g : ℕ → Float = λ j. entry n m s.row j ⊖ s.factor ⊗ entry n m s.k j in
    written_more n m s.row s.k g l.entries l.column (omega arith) (omega arith) (omega arith) (omega arith)
    (read_at n l.entries m s.row s.k l.column g s.factor (omega arith) (omega arith) (omega arith) l.invariant) l.invariant
