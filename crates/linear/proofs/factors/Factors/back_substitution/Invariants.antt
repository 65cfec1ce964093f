use Prim.Native.Nat.{ℕ, ◌-◌, ◌<◌}
use mathlib.Core.Path.{◌≡◌}
use lib.ListN.{drop}
use Rattle.vector.specs.Lists.{el}
use Rattle.linear.specs.Substitution.{upper, back_substitution}
use Rattle.linear.proofs.factors.Factors.back_substitution.Given as goal

abbrev pub invariant-loop-row : goal.invariant-loop-row
invariant-loop-row l = (drop l.row l.x ≡ back_substitution l.n (upper l.n l.self.entries.now) (el l.initial.x) (l.n - l.row)) × ((j : ℕ) → j < l.row → el l.x j ≡ el l.initial.x j)
