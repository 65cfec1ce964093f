-- `linear::Matrix::column_step` meets its contract. Assumes nothing.
use Prim.Native.Nat.{ℕ, ◌*◌}
use native.Mathlib.Omega.{arith}
use mathlib.Core.Path.{◌≡◌, refl, sym, ap, ◌∙◌}
use mathlib.Core.Bool.{true, false}
use borrow.Author.Rules.{rules}
use lib.ListN.{length}
use lib.Ieee.{Float}
use Rattle.std.specs.Prelude.{Ok}
use Rattle.float.specs.Methods.{abs}
use Rattle.vector.specs.Matrices.{entry}
use Rattle.linear.specs.Elimination.{unusable, elimination_step, stepped, stops}
use Rattle.linear.proofs.Pivoting.{search_below}
use Rattle.linear.proofs.Updates.{step_is, carried}
use Rattle.linear.proofs.matrix.Matrix.column_step.Goals as goal

pub interchange_rows-requires : goal.interchange_rows-requires
interchange_rows-requires c =
    let s = c.args in
    let m = s.self.now in
    omega (arith, c.column_pivot-pivot.ensures.0, search_below (entry m.n m.entries.now) s.k m.n m.n (omega arith) (omega arith))

pub returns-then-unusable : goal.returns-then-unusable
returns-then-unusable c =
    let s = c.args in
    let m = s.self.now in
    let p = c.column_pivot-pivot in
    let judged : c.unusable.result ≡ stops m.n s.threshold m.entries.now s.k =
    c.unusable.ensures ∙ ap (λ (x : Float). unusable x s.threshold) (p.ensures.1 ∙ ap (λ (r : ℕ). abs (entry m.n m.entries.now r s.k)) p.ensures.0) in
    let t : stops m.n s.threshold m.entries.now s.k ≡ true = sym judged ∙ c.if-unusable.true in
    record { answer = rw t refl; left = rw t refl; kept = search rules }

pub returns : goal.returns
returns c =
    let s = c.args in
    let m = s.self.now in
    let p = c.column_pivot-pivot in
    let x = c.interchange_rows in
    let e = c.eliminate in
    let judged : c.unusable.result ≡ stops m.n s.threshold m.entries.now s.k =
    c.unusable.ensures ∙ ap (λ (x : Float). unusable x s.threshold) (p.ensures.1 ∙ ap (λ (r : ℕ). abs (entry m.n m.entries.now r s.k)) p.ensures.0) in
    let t : stops m.n s.threshold m.entries.now s.k ≡ false = sym judged ∙ c.if-unusable.false in
    let long : length e.new.self.entries.now ≡ m.n * m.n = e.new.self.square ∙ ap (λ (n : ℕ). n * n) (e.ensures.1.1 ∙ x.ensures.1.1) in
    let done = step_is m.n s.k p.result.row m.entries.now x.new.self.entries.now e.new.self.entries.now (omega arith) long x.ensures.0 (carried x.new.self.entries.now e.new.self.entries.now (elimination_step s.k) x.ensures.1.1 e.ensures.0) in
    record { answer = rw t (ap Ok p.ensures.0); left = rw t (done ∙ ap (λ (r : ℕ). stepped m.n s.k r m.entries.now) p.ensures.0); kept = search rules }
