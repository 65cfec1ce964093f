-- `linear::Factors::back_substitution` meets its contract: the unknowns of the rows passed stand at the end, and the rest is as it was. Assumes nothing.
use Prim.Native.Nat.{◌-◌}
use native.Mathlib.Omega.{arith}
use mathlib.Core.Path.{refl, ◌∙◌}
use lib.Seq.{get_or-set_other}
use lib.Ieee.{nan}
use Rattle.vector.specs.Lists.{el}
use Rattle.linear.specs.Substitution.{upper}
use Rattle.linear.proofs.Substitutions.{back_none, back_more}
use Rattle.linear.proofs.factors.Factors.back_substitution.Goals as goal

pub loop-row-init : goal.loop-row-init
loop-row-init c = let s = c.args in let f = s.self.now in (back_none f.n (upper f.n f.entries.now) s.x.now (el s.x.now) (omega arith), λ j h. refl)

pub loop-row-preserved : goal.loop-row-preserved
loop-row-preserved c =
    let s = c.args in
    let f = s.self.now in
    let l = c.loop-row in
    let r = l.row - 1 in (
      back_more f.entries.now l.x (el s.x.now) f.n r l.row (omega arith) (omega arith) (omega arith) l.invariant.0 (l.invariant.1 r (omega arith)) c.less_products-value.ensures,
      λ j h. get_or-set_other l.x r j _ nan (λ q. omega arith) ∙ l.invariant.1 j (omega arith),
    )
