use mathlib.Core.Path.{◌≡◌}
use Rattle.linear.specs.Substitution.{interchanges}
use Rattle.linear.proofs.factors.interchange_all.Given as goal

abbrev pub invariant-loop-row : goal.invariant-loop-row
invariant-loop-row l = l.x ≡ interchanges l.pivots l.initial.x l.row
