use Rattle.std.proofs.Common.{refl}
use Rattle.stages.specs.Memory.{stage_in}
use Rattle.stages.proofs.Sums.{none_added}
use Rattle.stages.proofs.work.Work.add_multiple.Goals as goal

pub returns-then-c : goal.returns-then-c
returns-then-c c =
    let w = c.args.self.now in
    (none_added w.cells.now c.args.to w.layout.n c.args.c (stage_in w.layout.n w.cells.now c.args.i) c.if-c.true, (refl, refl))
