use Rattle.std.proofs.Common.{refl, arith, ap, ◌∙◌, ℕ, Float, rules}
use Rattle.float.specs.Operators.{◌⊕◌, ◌⊗◌, ◌⊘◌}
use Rattle.vector.specs.Parts.{puts}
use Rattle.tableau.specs.Tableau.{coupling_of, d_of}
use Rattle.tableau.specs.File.{tableau_of}
use Rattle.stages.specs.declared.layout.Layout.{Layout}
use Rattle.stages.specs.Layout.{linear_rhs_at, rhs_stage_at, time_partial_at}
use Rattle.stages.specs.Method.{right_hand_side}
use Rattle.stages.specs.Memory.{component, with_right_hand_side}
use Rattle.stages.proofs.Sums.{summed_after}
use Rattle.stages.proofs.work.Work.set_right_hand_side.Goals as goal

pub returns : goal.returns
unfolding with_right_hand_side right_hand_side
returns c =
    let w = c.args.self.now.cells.now in
    let l = c.args.self.now.layout in
    let t = tableau_of c.args.file.now in
    let a = λ (j : ℕ). coupling_of t c.args.i j ⊘ c.args.step in
    let f = λ (k : ℕ). component w (rhs_stage_at l.n l.s c.args.i) k ⊕ (c.args.step ⊗ d_of t c.args.i) ⊗ component w (time_partial_at l.n) k in
    let x = c.add_stages.ensures a (λ j r h p. search rules ∙ ap (λ (z : Float). z ⊘ c.args.step) (c.coupling_row-row.ensures.elements j h)) in
    let y = c.start_right_hand_side.ensures in
    let e = ap (λ (z : Layout). z.n) y.1.1 in
    (summed_after w (linear_rhs_at l.n) l.n a f c.args.i (omega arith) (omega arith) refl refl (y.0 ∙ ap (λ (z : Float). puts w (linear_rhs_at l.n) (λ k. component w (rhs_stage_at l.n l.s c.args.i) k ⊕ (c.args.step ⊗ z) ⊗ component w (time_partial_at l.n) k) l.n) c.d.ensures) (c.linear_rhs-to.ensures.0 ∙ ap linear_rhs_at e) e x.0, (x.1.0 ∙ y.1.0, x.1.1 ∙ y.1.1))
