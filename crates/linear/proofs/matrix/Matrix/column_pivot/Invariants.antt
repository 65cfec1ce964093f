use mathlib.Core.Path.{◌≡◌}
use Rattle.float.specs.Methods.{abs}
use Rattle.vector.specs.Matrices.{entry}
use Rattle.linear.specs.Elimination.{largest_row}
use Rattle.linear.proofs.matrix.Matrix.column_pivot.Given as goal

abbrev pub invariant-loop-row : goal.invariant-loop-row
invariant-loop-row l = (l.pivot.row ≡ largest_row (entry l.n l.self.entries.now) l.column l.row) × (l.pivot.magnitude ≡ abs (entry l.n l.self.entries.now l.pivot.row l.column))
