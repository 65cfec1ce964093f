use Rattle.std.proofs.Common.{refl, arith, ap, ◌∙◌, ◌*◌, List, Float}
use Rattle.vector.specs.Lists.{el}
use Rattle.vector.specs.Parts.{puts}
use Rattle.linear.specs.Calls.{Outcome, raw_of}
use Rattle.stages.specs.Layout.{factors_at}
use Rattle.stages.specs.Memory.{with_factors}
use Rattle.stages.proofs.Ranges.{spanned, returned}
use Rattle.stages.proofs.work.Work.factorize.Goals as goal

pub returns-clause-cells : goal.returns-clause-cells
unfolding with_factors
returns-clause-cells c =
    let w = c.args.self.now.cells.now in
    let n = c.args.self.now.layout.n in
    let r = c.factors in
    let e = c.factorize_raw.ensures ∙ ap (λ (m : List Float). raw_of n m c.args.pivots.now) (spanned r.result w (factors_at n) (n * n) r.ensures) in
    (returned r.result w c.factorize_raw.new.matrix (factors_at n) (n * n) r.ensures (omega arith) (omega arith) ∙ ap (λ (o : Outcome). puts w (factors_at n) (el o.matrix) (n * n)) e, (refl, refl))
