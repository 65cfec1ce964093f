use Rattle.linear.specs.Lent.{Same}
use Rattle.linear.proofs.Updates.{Cleared}
use Rattle.linear.proofs.matrix.Matrix.eliminate.Given as goal

abbrev pub invariant-loop-row : goal.invariant-loop-row
invariant-loop-row l = Cleared l.n l.initial.self.entries.now l.k l.row l.self.entries.now × Same l.initial.self l.self
