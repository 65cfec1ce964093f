-- `linear::Matrix::eliminate_columns` meets its contract: all steps so far are done, and their pivots are listed. Assumes nothing.
use native.Mathlib.Omega.{arith}
use mathlib.Core.Path.{◌≡◌}
use borrow.Author.Rules.{rules}
use Rattle.std.specs.Prelude.{Err}
use Rattle.linear.proofs.Progress.{reached_none, reached_more, reached_stop, reached_all}
use Rattle.linear.proofs.matrix.Matrix.eliminate_columns.Goals as goal

pub loop-pivot_column-init : goal.loop-pivot_column-init
loop-pivot_column-init c =
    let s = c.args in
    let m = s.self.now in
    (reached_none m.n s.threshold m.entries.now s.pivots.now, search rules)

pub returns-in_err-pivot_row : goal.returns-in_err-pivot_row
returns-in_err-pivot_row c =
    let s = c.args in
    let m = s.self.now in
    let l = c.loop-pivot_column in
    let w = c.column_step.ensures in
    let e : c.from_residual.result ≡ Err c.in_err-pivot_row.field-0.0 = search rules in
    record {
      done = rw e (reached_stop m.n s.threshold m.entries.now s.pivots.now l.pivot_column l.invariant.0 l.invariant.1.1 w.answer w.left c.in_err-pivot_row.was (omega arith));
      kept = search rules;
    }

pub loop-pivot_column-preserved : goal.loop-pivot_column-preserved
loop-pivot_column-preserved c =
    let s = c.args in
    let m = s.self.now in
    let l = c.loop-pivot_column in
    let w = c.column_step.ensures in
    (reached_more m.n s.threshold m.entries.now s.pivots.now l.pivot_column l.invariant.0 l.invariant.1.1 w.answer w.left c.in_ok-pivot_row.was, search rules)

pub returns : goal.returns
returns c =
    let s = c.args in
    let m = s.self.now in
    let l = c.loop-pivot_column in
    record { done = reached_all m.n s.threshold m.entries.now s.pivots.now l.pivot_column l.invariant.0 (omega arith); kept = search rules }
