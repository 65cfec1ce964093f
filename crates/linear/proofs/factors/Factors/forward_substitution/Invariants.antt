use Prim.Native.Nat.{ℕ, ◌≤◌}
use mathlib.Core.Path.{◌≡◌}
use lib.ListN.{take}
use Rattle.vector.specs.Lists.{el}
use Rattle.linear.specs.Substitution.{lower, forward_substitution}
use Rattle.linear.proofs.factors.Factors.forward_substitution.Given as goal

abbrev pub invariant-loop-row : goal.invariant-loop-row
invariant-loop-row l = (take l.row l.x ≡ forward_substitution (lower l.n l.self.entries.now) (el l.initial.x) l.row) × ((j : ℕ) → l.row ≤ j → el l.x j ≡ el l.initial.x j)
