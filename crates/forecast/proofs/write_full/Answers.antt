-- `forecast::write_full` meets its contract: what it wrote is a prefix of the text. Assumes nothing.
use Rattle.std.proofs.Common.{◌+◌}
use Rattle.std.proofs.KnownBytes.{Appends-kept}
use Rattle.forecast.proofs.Writing.{prefix_written, prefix_of, at_err}
use Rattle.forecast.proofs.write_full.Goals as goal

pub returns-in_err-taken-clause-err : goal.returns-in_err-taken-clause-err
returns-in_err-taken-clause-err g c =
    at_err c.from_residual.result (prefix_of c.loop-count.count c.args.text.now _ _ (Appends-kept _ _ _ _ c.loop-count.invariant.1 c.in_err-taken.ensures.bytes))

pub returns-then-taken-eq0-clause-err : goal.returns-then-taken-eq0-clause-err
returns-then-taken-eq0-clause-err g c =
    let before = c.loop-count.invariant in
    let written = c.in_ok-taken.ensures in
    prefix_of (c.loop-count.count + c.in_ok-taken.taken) c.args.text.now _ _ (prefix_written _ _ c.args.text.now written.bound _ _ _ before.0 before.1 written.bytes).1

pub loop-count-preserved : goal.loop-count-preserved
loop-count-preserved g c =
    let before = c.loop-count.invariant in
    let written = c.in_ok-taken.ensures in
    prefix_written _ _ c.args.text.now written.bound _ _ _ before.0 before.1 written.bytes
