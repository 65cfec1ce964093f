-- `dense::Segment::interpolate_stiff`: the components so far.
use mathlib.Core.Path.{◌≡◌}
use Rattle.vector.specs.Parts.{puts}
use Rattle.dense.specs.Segment.{inside}
use Rattle.dense.proofs.Segment.interpolate_stiff.Given as goal

abbrev pub invariant-loop-component : goal.invariant-loop-component
invariant-loop-component l = l.output ≡ puts l.initial.output 0 (inside l.self.start_state.now l.self.end_state.now l.self.corrections.now l.self.order l.theta) l.component
