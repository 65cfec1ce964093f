use Rattle.std.proofs.Common.{◌≡◌}
use Rattle.vector.specs.Parts.{puts}
use Rattle.stages.specs.Layout.{current_at, rhs_stage_at}
use Rattle.stages.specs.Memory.{component}
use Rattle.stages.proofs.work.Work.reuse_current.Given as goal

abbrev pub invariant-loop-k : goal.invariant-loop-k
invariant-loop-k l = let w = l.initial.cells in l.cells ≡ puts w (rhs_stage_at l.n l.fn.self.layout.s 0) (component w (current_at l.n)) l.k
