-- `dense::Segment::polynomial`: Horner's scheme from the row that was read last.
use mathlib.Core.Path.{◌≡◌}
use Prim.Native.Nat.{◌-◌}
use lib.ListN.{length}
use Rattle.vector.specs.Matrices.{entry}
use Rattle.dense.specs.Segment.{horner}
use Rattle.dense.proofs.Segment.polynomial.Given as goal

abbrev pub invariant-loop-row : goal.invariant-loop-row
invariant-loop-row l = l.polynomial ≡ horner (λ r. entry (length l.self.start_state.now) l.self.corrections.now r l.component) l.theta l.row (l.self.order - 1 - l.row)
