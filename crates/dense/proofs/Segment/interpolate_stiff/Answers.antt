-- `dense::Segment::interpolate_stiff` meets its contract. Assumes nothing.
use Prim.Native.Nat.{ℕ}
use native.Mathlib.Omega.{arith}
use mathlib.Core.Path.{◌≡◌, ap, ◌∙◌}
use lib.ListN.{length}
use Rattle.vector.specs.Parts.{puts}
use Rattle.vector.proofs.Loops.{front_table}
use Rattle.dense.specs.Segment.{theta, inside}
use Rattle.dense.specs.Shown.{shown}
use Rattle.dense.proofs.Answers.{at_start, at_end, amid}
use Rattle.dense.proofs.Segment.interpolate_stiff.Goals as goal

pub returns-then-time-self : goal.returns-then-time-self
returns-then-time-self c = at_start (shown c.args.self.now) c.args.time c.if-time-self.true c.copy.ensures

pub returns-then-time-self-2 : goal.returns-then-time-self-2
returns-then-time-self-2 c =
    at_end (shown c.args.self.now) c.args.time c.if-time-self.false c.if-time-self-2.true c.requires.fits.states c.copy-then-time-self-2.ensures

pub returns : goal.returns
unfolding theta
returns c =
    let s = c.args.self.now in
    let l = c.loop-component in
    let n = length s.start_state.now in
    let f = inside s.start_state.now s.end_state.now s.corrections.now s.order (theta (shown s) c.args.time) in
    let e : l.component ≡ n = omega arith in
    amid (shown s) c.args.time c.if-time-self.false c.if-time-self-2.false
    (l.invariant ∙ ap (λ (k : ℕ). puts c.args.output.now 0 f k) e ∙ front_table c.args.output.now f n c.requires.room)
