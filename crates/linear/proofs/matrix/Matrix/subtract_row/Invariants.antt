use Rattle.float.specs.Operators.{◌⊖◌, ◌⊗◌}
use Rattle.vector.specs.Matrices.{entry}
use Rattle.linear.proofs.Updates.{Written}
use Rattle.linear.proofs.matrix.Matrix.subtract_row.Given as goal

abbrev pub invariant-loop-column : goal.invariant-loop-column
invariant-loop-column l = Written l.n l.initial.entries l.row l.k (λ j. entry l.n l.initial.entries l.row j ⊖ l.factor ⊗ entry l.n l.initial.entries l.k j) l.column l.entries
