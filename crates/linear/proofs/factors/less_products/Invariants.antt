use mathlib.Core.Path.{◌≡◌}
use Rattle.linear.proofs.Substitutions.{Less}
use Rattle.linear.proofs.factors.less_products.Given as goal

abbrev pub invariant-loop-column : goal.invariant-loop-column
invariant-loop-column l = l.value ≡ Less l.factors l.x l.at l.first l.b l.column
