use Rattle.linear.specs.Lent.{Same}
use Rattle.linear.proofs.Progress.{Reached}
use Rattle.linear.proofs.matrix.Matrix.eliminate_columns.Given as goal

abbrev pub invariant-loop-pivot_column : goal.invariant-loop-pivot_column
invariant-loop-pivot_column l =
    Reached l.initial.self.n l.threshold l.initial.self.entries.now l.initial.pivots l.pivot_column l.self.entries.now l.pivots × Same l.initial.self l.self
