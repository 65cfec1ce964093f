-- `linear::Matrix::eliminate_four` meets its contract: each column's step is the elimination's, and the pivots of the steps done are listed. Assumes nothing.
use native.Mathlib.Omega.{arith}
use mathlib.Core.Path.{◌≡◌, refl, ◌∙◌}
use borrow.Author.Rules.{rules}
use Rattle.std.specs.Prelude.{Err}
use Rattle.linear.proofs.Progress.{reached_none, reached_more, reached_stop, reached_all}
use Rattle.linear.proofs.matrix.Matrix.eliminate_four.Goals as goal

pub returns-in_err-first-clause-done : goal.returns-in_err-first-clause-done
returns-in_err-first-clause-done c =
    let s = c.args in
    let m = s.self.now in
    let none = reached_none m.n s.threshold m.entries.now s.pivots.now in
    let w = c.column_step.ensures in
    let e : c.from_residual.result ≡ Err c.in_err-first.field-0.0 = search rules in
    rw e (reached_stop m.n s.threshold m.entries.now s.pivots.now 0 none refl w.answer w.left c.in_err-first.was (omega arith))

pub returns-in_err-second-clause-done : goal.returns-in_err-second-clause-done
returns-in_err-second-clause-done c =
    let s = c.args in
    let m = s.self.now in
    let none = reached_none m.n s.threshold m.entries.now s.pivots.now in
    let w = c.column_step.ensures in
    let one = reached_more m.n s.threshold m.entries.now s.pivots.now 0 none refl w.answer w.left c.in_ok-first.was in
    let w2 = c.column_step-2.ensures in
    let e : c.from_residual-in_err-second.result ≡ Err c.in_err-second.field-0.0 = search rules in
    rw e (reached_stop m.n s.threshold m.entries.now s.pivots.now 1 one w.kept.1 w2.answer w2.left c.in_err-second.was (omega arith))

pub returns-in_err-third-clause-done : goal.returns-in_err-third-clause-done
returns-in_err-third-clause-done c =
    let s = c.args in
    let m = s.self.now in
    let none = reached_none m.n s.threshold m.entries.now s.pivots.now in
    let w = c.column_step.ensures in
    let one = reached_more m.n s.threshold m.entries.now s.pivots.now 0 none refl w.answer w.left c.in_ok-first.was in
    let w2 = c.column_step-2.ensures in
    let two = reached_more m.n s.threshold m.entries.now s.pivots.now 1 one w.kept.1 w2.answer w2.left c.in_ok-second.was in
    let w3 = c.column_step-3.ensures in
    let e : c.from_residual-in_err-third.result ≡ Err c.in_err-third.field-0.0 = search rules in
    rw e (reached_stop m.n s.threshold m.entries.now s.pivots.now 2 two (w2.kept.1 ∙ w.kept.1) w3.answer w3.left c.in_err-third.was (omega arith))

pub returns-in_err-fourth-clause-done : goal.returns-in_err-fourth-clause-done
returns-in_err-fourth-clause-done c =
    let s = c.args in
    let m = s.self.now in
    let none = reached_none m.n s.threshold m.entries.now s.pivots.now in
    let w = c.column_step.ensures in
    let one = reached_more m.n s.threshold m.entries.now s.pivots.now 0 none refl w.answer w.left c.in_ok-first.was in
    let w2 = c.column_step-2.ensures in
    let two = reached_more m.n s.threshold m.entries.now s.pivots.now 1 one w.kept.1 w2.answer w2.left c.in_ok-second.was in
    let w3 = c.column_step-3.ensures in
    let three = reached_more m.n s.threshold m.entries.now s.pivots.now 2 two (w2.kept.1 ∙ w.kept.1) w3.answer w3.left c.in_ok-third.was in
    let w4 = c.column_step-4.ensures in
    let e : c.from_residual-in_err-fourth.result ≡ Err c.in_err-fourth.field-0.0 = search rules in
    rw e (reached_stop m.n s.threshold m.entries.now s.pivots.now 3 three (w3.kept.1 ∙ w2.kept.1 ∙ w.kept.1) w4.answer w4.left c.in_err-fourth.was (omega arith))

pub returns-clause-done : goal.returns-clause-done
returns-clause-done c =
    let s = c.args in
    let m = s.self.now in
    let none = reached_none m.n s.threshold m.entries.now s.pivots.now in
    let w = c.column_step.ensures in
    let one = reached_more m.n s.threshold m.entries.now s.pivots.now 0 none refl w.answer w.left c.in_ok-first.was in
    let w2 = c.column_step-2.ensures in
    let two = reached_more m.n s.threshold m.entries.now s.pivots.now 1 one w.kept.1 w2.answer w2.left c.in_ok-second.was in
    let w3 = c.column_step-3.ensures in
    let three = reached_more m.n s.threshold m.entries.now s.pivots.now 2 two (w2.kept.1 ∙ w.kept.1) w3.answer w3.left c.in_ok-third.was in
    let w4 = c.column_step-4.ensures in
    let four = reached_more m.n s.threshold m.entries.now s.pivots.now 3 three (w3.kept.1 ∙ w2.kept.1 ∙ w.kept.1) w4.answer w4.left c.in_ok-fourth.was in
    reached_all m.n s.threshold m.entries.now s.pivots.now 4 four (omega arith)
