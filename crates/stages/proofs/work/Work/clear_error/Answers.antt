use Rattle.std.proofs.Common.{refl, arith, ap, ◌∙◌, length}
use Rattle.vector.proofs.Parts.{length_part}
use Rattle.stages.specs.Layout.{error_at}
use Rattle.stages.proofs.Ranges.{spanned, filled}
use Rattle.stages.proofs.work.Work.clear_error.Goals as goal

pub returns : goal.returns
returns c =
    let w = c.args.self.now.cells.now in
    let n = c.args.self.now.layout.n in
    let l = ap length (spanned c.error.result w (error_at n) n c.error.ensures) ∙ length_part (error_at n) n w (omega arith) in
    (filled c.error.result w _ (error_at n) n _ _ c.error.ensures (omega arith) l (c.fill.ensures.after (λ y h. h)), (refl, refl))
