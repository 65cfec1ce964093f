use Rattle.std.proofs.Common.{refl, sym, arith, ap, ◌∙◌, ◌*◌, ◌-◌, ◌≡◌, List, Float, length, take}
use Rattle.vector.specs.Lists.{el}
use Rattle.vector.specs.Parts.{part, puts}
use Rattle.vector.proofs.Parts.{length_part}
use Rattle.stages.specs.Layout.{linear_rhs_at, factors_at}
use Rattle.stages.specs.Memory.{with_solution}
use Rattle.stages.proofs.Ranges.{spanned, in_front, joined}
use Rattle.stages.proofs.work.Work.solve.Goals as goal

pub returns : goal.returns
unfolding with_solution
returns c =
    let w = c.args.self.now.cells.now in
    let n = c.args.self.now.layout.n in
    let r = c.linear_rhs-rhs in
    let s = c.split_at_mut-vectors in
    let a = s.result.0.now in
    let y = c.solve_factorized.new.rhs in
    let b : part r.result.start (r.result.end - r.result.start) a ≡ part (linear_rhs_at n) n w =
    spanned r.result a (linear_rhs_at n) n r.ensures ∙ sym (in_front w a s.result.1.now (linear_rhs_at n) n s.ensures.value (omega arith)) in
    let f : take (n * n) s.result.1.now ≡ part (factors_at n) (n * n) w = rw (s.ensures.back, c.factors-start.ensures.0) refl in
    let l = c.solve_factorized.auto.rhs ∙ ap length b ∙ length_part (linear_rhs_at n) n w (omega arith) in
    (joined r.result w a s.result.1.now y (linear_rhs_at n) n r.ensures s.ensures.value (omega arith) l ∙ ap (λ (z : List Float). puts w (linear_rhs_at n) (el z) n) (c.solve_factorized.ensures.0 ∙ rw (f, b) refl), (refl, refl))
