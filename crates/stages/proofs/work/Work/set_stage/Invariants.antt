use Rattle.std.proofs.Common.{◌≡◌}
use Rattle.float.specs.Operators.{◌⊗◌}
use Rattle.vector.specs.Parts.{puts}
use Rattle.stages.specs.Layout.{stage_at, linear_rhs_at}
use Rattle.stages.specs.Memory.{component}
use Rattle.stages.proofs.work.Work.set_stage.Given as goal

abbrev pub invariant-loop-k : goal.invariant-loop-k
invariant-loop-k l = let w = l.initial.cells in l.cells ≡ puts w (stage_at l.n l.i) (λ k. l.c ⊗ component w (linear_rhs_at l.n) k) l.k
