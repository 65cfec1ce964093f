use Rattle.std.proofs.Common.{◌≡◌, is_some, unwrap_or}
use Rattle.float.specs.Operators.{𝟎}
use Rattle.vector.specs.Parts.{puts}
use Rattle.time_difference.specs.Probes.{partial}
use Rattle.stages.specs.Layout.{time_partial_at, probe_rhs_at, current_at}
use Rattle.stages.specs.Memory.{component}
use Rattle.differentiation.proofs.time_partial.Given as goal

abbrev pub invariant-loop-k : goal.invariant-loop-k
invariant-loop-k l =
    let w = l.initial.work in
    l.work ≡ puts w (time_partial_at l.n) (λ k. partial (is_some l.d2) (component w (current_at l.n) k) (component w (time_partial_at l.n) k) (component w (probe_rhs_at l.n) k) l.d1 (unwrap_or l.d2 𝟎)) l.k
