-- `dense::Segment::polynomial` meets its contract. Assumes nothing.
use native.Mathlib.Omega.{arith}
use lib.ListN.{length}
use Rattle.vector.specs.Matrices.{entry}
use Rattle.dense.proofs.Rows.{row_above}
use Rattle.dense.proofs.Segment.polynomial.Goals as goal

pub loop-row-preserved : goal.loop-row-preserved
loop-row-preserved c =
    let s = c.args.self.now in
    row_above (λ r. entry (length s.start_state.now) s.corrections.now r c.args.component) c.args.theta c.loop-row.row s.order (omega arith) (omega arith) c.loop-row.invariant
