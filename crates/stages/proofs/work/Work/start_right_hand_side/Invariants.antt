use Rattle.std.proofs.Common.{◌≡◌}
use Rattle.float.specs.Operators.{◌⊕◌, ◌⊗◌}
use Rattle.vector.specs.Parts.{puts}
use Rattle.stages.specs.Memory.{component}
use Rattle.stages.proofs.work.Work.start_right_hand_side.Given as goal

abbrev pub invariant-loop-k : goal.invariant-loop-k
invariant-loop-k l = let w = l.initial.cells in l.cells ≡ puts w l.to (λ k. component w l.derivative k ⊕ l.c ⊗ component w l.partial k) l.k
