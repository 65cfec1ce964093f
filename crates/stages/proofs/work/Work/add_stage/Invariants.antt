use Rattle.std.proofs.Common.{◌≡◌}
use Rattle.float.specs.Operators.{◌⊕◌, ◌⊗◌}
use Rattle.vector.specs.Parts.{puts}
use Rattle.stages.specs.Memory.{component}
use Rattle.stages.proofs.work.Work.add_stage.Given as goal

abbrev pub invariant-loop-k : goal.invariant-loop-k
invariant-loop-k l =
    let w = l.initial.cells in
    l.cells ≡ puts (puts w l.candidate (λ k. component w l.candidate k ⊕ l.b ⊗ component w l.stage k) l.k) l.error (λ k. component w l.error k ⊕ l.e ⊗ component w l.stage k) l.k
