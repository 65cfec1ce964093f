-- What a lent segment holds, and when its parts fit each other. Definitions only.
use Rattle.std.specs.Prelude.{◌≡◌, ◌*◌, ◌≤◌, length}
use Rattle.dense.specs.declared.Segment as lent
use Rattle.dense.specs.Segment.{Segment, segment, size}

abbrev pub shown : lent.Segment → Segment
shown s = segment s.start_time s.end_time s.start_state.now s.end_state.now s.corrections.now s.order

-- a state at the end as long as that at the start, an order from 2 to 4, and as many rows of corrections
pub record Fits (s : Segment) : Type 0 where
  pub states : length s.end_state ≡ size s
  pub least : 2 ≤ s.order
  pub most : s.order ≤ 4
  pub rows : length s.corrections ≡ s.order * size s
