use Rattle.linear.proofs.Exchanges.{Interchanged}
use Rattle.linear.proofs.matrix.Matrix.interchange_rows.Given as goal

abbrev pub invariant-loop-column : goal.invariant-loop-column
invariant-loop-column l = Interchanged l.n l.k l.p l.initial.entries l.column l.entries
