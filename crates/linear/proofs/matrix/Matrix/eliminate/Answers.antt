-- `linear::Matrix::eliminate` meets its contract: the rows passed are done. Assumes nothing.
use Prim.Native.Nat.{ℕ, ◌*◌}
use native.Mathlib.Omega.{arith}
use mathlib.Core.Path.{refl, sym, ap, ◌∙◌}
use borrow.Author.Rules.{rules}
use lib.Ieee.{Float}
use lib.Dec.{ltb, eqb}
use mathlib.Core.Bool.{cond, ◌&&◌}
use Rattle.float.specs.Operators.{◌⊖◌, ◌⊗◌, ◌⊘◌}
use Rattle.vector.specs.Matrices.{entry}
use Rattle.linear.proofs.Updates.{row_done, cleared_pivot, cleared_more, carried}
use Rattle.linear.proofs.matrix.Matrix.eliminate.Goals as goal

pub loop-row-preserved : goal.loop-row-preserved
loop-row-preserved c =
    let s = c.args in
    let l = c.loop-row in
    let n = s.self.now.n in
    let m = s.self.now.entries.now in
    let x = l.self.entries.now in
    let w = c.subtract_row in
    let v = entry n x l.row s.k ⊘ entry n m s.k s.k in
    let pivot = cleared_pivot n m s.k (omega arith) l.row x s.k (omega arith) l.invariant.0 in (
      cleared_more n m s.k (omega arith) l.row x w.new.self.entries.now (omega arith) (omega arith) l.invariant.0
          (row_done n x _ w.new.self.entries.now l.row s.k (l.self.square ∙ ap (λ (k : ℕ). k * k) l.invariant.1.1) (omega arith) (omega arith) (ap (λ (v : Float). entry n x l.row s.k ⊘ v) (sym pivot)) refl
          (carried _ w.new.self.entries.now (λ a i j. cond (ltb s.k j && eqb i l.row) (a l.row j ⊖ v ⊗ a s.k j) (a i j)) l.invariant.1.1 w.ensures.0)),
      search rules,
    )
