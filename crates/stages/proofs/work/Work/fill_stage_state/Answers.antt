use Rattle.std.proofs.Common.{refl, arith, ◌∙◌, rules}
use Rattle.vector.specs.Lists.{el}
use Rattle.tableau.specs.Tableau.{a_of}
use Rattle.tableau.specs.File.{tableau_of}
use Rattle.stages.specs.Layout.{stage_state_at}
use Rattle.stages.specs.Method.{stage_state}
use Rattle.stages.specs.Memory.{with_stage_state}
use Rattle.stages.proofs.Sums.{summed_after}
use Rattle.stages.proofs.work.Work.fill_stage_state.Goals as goal

pub returns : goal.returns
unfolding with_stage_state stage_state
returns c =
    let w = c.args.self.now.cells.now in
    let n = c.args.self.now.layout.n in
    let a = a_of (tableau_of c.args.file.now) c.args.i in
    let x = c.add_stages.ensures a (λ j r h p. search rules ∙ c.a_row-row.ensures.elements j h) in
    (summed_after w (stage_state_at n) n a (el c.args.state.now) c.args.i (omega arith) (omega arith) c.stage_state-to.ensures.0 c.requires.lengths c.put.ensures c.stage_state-to.ensures.0 refl x.0, x.1)
