use Rattle.std.proofs.Common.{◌≡◌}
use Rattle.vector.specs.Parts.{puts_column}
use Rattle.stages.specs.Layout.{jacobian_at, probe_rhs_at, current_at}
use Rattle.stages.specs.Memory.{component}
use Rattle.differentiation.specs.Differences.{quotient}
use Rattle.differentiation.proofs.column.Given as goal

abbrev pub invariant-loop-row : goal.invariant-loop-row
invariant-loop-row l =
    let w = l.initial.work in
    l.work ≡ puts_column w (jacobian_at l.n) l.n l.k (quotient l.by (component w (probe_rhs_at l.n)) (component w (current_at l.n))) l.row
