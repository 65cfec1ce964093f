-- `forecast::read_full` meets its contract: what it filled is the front of what the input had. Assumes nothing.
use Rattle.std.proofs.Common.{rules, subst}
use Rattle.std.specs.Io.KnownBytes.{Consumes}
use Rattle.std.proofs.KnownBytes.{Consumes-trans}
use Rattle.forecast.proofs.Reading.{front_grows}
use Rattle.forecast.proofs.read_full.Goals as goal

pub loop-count-preserved : goal.loop-count-preserved
loop-count-preserved g c =
    let before = c.loop-count.invariant in
    let read = c.in_ok-more.ensures in
    (search rules, search rules, subst (Consumes _ _) (front_grows c.loop-count.count c.in_ok-more.more c.loop-count.buf c.read.new.buf before.1 read.bound.0) (Consumes-trans _ _ _ _ _ before.2 read.bytes.0))
