use Rattle.std.proofs.Common.{◌≡◌, ap, refl, arith, ◌∙◌}
use Rattle.stages.specs.declared.layout.Layout.{Layout}
use Rattle.stages.proofs.Sums.{summed_none, summed_more}
use Rattle.stages.proofs.work.Work.add_stages.Goals as goal

pub loop-j-init : goal.loop-j-init
loop-j-init g c =
    let w = c.args.self.now in
    ((refl, refl), λ a h. (summed_none w.cells.now c.args.to w.layout.n a, (refl, refl)))

pub loop-j-preserved : goal.loop-j-preserved
loop-j-preserved g c =
    let w = c.args.self.now in
    let l = c.loop-j in
    let x = c.add_multiple.ensures in
    let cells = x.1.0 ∙ l.invariant.0.0 in
    let layout = x.1.1 ∙ l.invariant.0.1 in (
      (cells, layout),
      λ a h. (
        summed_more w.cells.now c.args.to w.layout.n a l.j c.coefficient.result (omega arith) (omega arith) (h l.j c.coefficient.result (omega arith) c.coefficient.ensures)
            (ap (λ (z : Layout). z.n) l.invariant.0.1) (l.invariant.1 a h).0 x.0,
        (cells, layout),
      ),
    )

pub returns : goal.returns
returns g c =
    let e : c.loop-j.j ≡ c.args.i = omega arith in λ a h. rw e at (c.loop-j.invariant.1 a h)
