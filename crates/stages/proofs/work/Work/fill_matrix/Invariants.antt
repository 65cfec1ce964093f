use Rattle.std.proofs.Common.{◌≡◌, ◌+◌, ◌*◌}
use Rattle.vector.specs.Lists.{el}
use Rattle.vector.specs.Parts.{puts}
use Rattle.tableau.specs.File.{tableau_of}
use Rattle.stages.specs.Layout.{factors_at}
use Rattle.stages.proofs.Matrix.{matrix}
use Rattle.stages.proofs.work.Work.fill_matrix.Given as goal

abbrev pub invariant-loop-row : goal.invariant-loop-row
invariant-loop-row l = let w = l.fn.self.cells.now in l.cells ≡ puts w (factors_at l.n) (el (matrix l.n (tableau_of l.file) l.step w)) (l.row * l.n)

abbrev pub invariant-loop-column : goal.invariant-loop-column
invariant-loop-column l = let w = l.fn.self.cells.now in l.cells ≡ puts w (factors_at l.n) (el (matrix l.n (tableau_of l.file) l.step w)) (l.row * l.n + l.column)
