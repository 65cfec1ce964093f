use Rattle.std.proofs.Common.{◌≡◌}
use Rattle.vector.specs.Parts.{puts}
use Rattle.stages.specs.Method.{plus_multiple}
use Rattle.stages.specs.Memory.{component, stage_in}
use Rattle.stages.proofs.work.Work.add_multiple.Given as goal

abbrev pub invariant-loop-k : goal.invariant-loop-k
invariant-loop-k l = let w = l.initial.cells in l.cells ≡ puts w l.to (λ k. plus_multiple (component w l.to k) l.c (stage_in l.n w l.i k)) l.k
