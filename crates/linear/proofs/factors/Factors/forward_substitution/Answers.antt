-- `linear::Factors::forward_substitution` meets its contract: the unknowns of the rows passed stand in front, and the rest is as it was. Assumes nothing.
use native.Mathlib.Omega.{arith}
use mathlib.Core.Path.{refl, ◌∙◌}
use lib.Seq.{get_or-set_other}
use lib.Ieee.{nan}
use Rattle.linear.specs.Substitution.{lower}
use Rattle.linear.proofs.Substitutions.{forward_none, forward_more}
use Rattle.linear.proofs.factors.Factors.forward_substitution.Goals as goal

pub loop-row-init : goal.loop-row-init
loop-row-init c = let s = c.args in let f = s.self.now in (forward_none (lower f.n f.entries.now) s.x.now (omega arith), λ j h. refl)

pub loop-row-preserved : goal.loop-row-preserved
loop-row-preserved c =
    let s = c.args in
    let f = s.self.now in
    let l = c.loop-row in (
      forward_more f.entries.now l.x s.x.now f.n l.row (omega arith) (omega arith) l.invariant.0 (l.invariant.1 l.row (omega arith)) c.less_products.ensures,
      λ j h. get_or-set_other l.x l.row j _ nan (λ q. omega arith) ∙ l.invariant.1 j (omega arith),
    )
