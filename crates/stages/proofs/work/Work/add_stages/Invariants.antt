use Rattle.std.proofs.Common.{ℕ, ◌≡◌, ◌<◌, Float}
use Rattle.vector.specs.Parts.{puts}
use Rattle.stages.specs.Method.{plus_multiples}
use Rattle.stages.specs.Memory.{component, stage_in}
use Rattle.stages.specs.Lent.{Same, Becomes}
use Rattle.stages.proofs.work.Work.add_stages.Given as goal

abbrev pub invariant-loop-j : goal.invariant-loop-j
invariant-loop-j g l =
    Same l.initial.self l.self
    × ((c : ℕ → Float) → ((j : ℕ) (r : Float) → j < l.i → goal.F-post g l.coefficient j r → r ≡ c j)
    → Becomes l.initial.self l.self (λ z w. puts w l.to (λ k. plus_multiples c (λ j. stage_in z.n w j k) (component w l.to k) l.j) z.n))
