-- `forecast::write_full` ends where it goes on only after a write that took something; what it wrote is a prefix of the text.
use Rattle.std.proofs.Common.{◌≤◌, ◌-◌, length, take}
use Rattle.std.specs.Io.KnownBytes.{Appends}
use Rattle.forecast.proofs.write_full.Given as goal

abbrev pub invariant-loop-count : goal.invariant-loop-count
invariant-loop-count g l = (l.count ≤ length l.text) × Appends (g.W.Write.contents l.fn.output) (g.W.Write.contents l.output) (take l.count l.text)

abbrev pub decreases-loop-count : goal.decreases-loop-count
decreases-loop-count g l = length l.text - l.count
