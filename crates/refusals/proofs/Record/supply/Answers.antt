-- `refusals::Record::supply` meets its contract where something is asked. Assumes nothing.
use mathlib.Core.Path.{sym, ap, ◌∙◌}
use mathlib.Core.Bool.{not}
use lib.ListN.{length}
use Rattle.stepping.specs.Refusals.{first_of}
use Rattle.refusals.specs.Tests.{lent_tests}
use Rattle.refusals.proofs.Phases.{answered, open_told}
use Rattle.refusals.proofs.Supplies.{unread, read, small, rows, other_length, pivots_off, asked}
use Rattle.refusals.proofs.Record.supply.Goals as goal

pub wanted-requires : goal.wanted-requires
wanted-requires c =
    let y = c.args.self in
    let p = y.progress in
    let tests = lent_tests y.fixed p y.state y.work (length y.pivots.now) in
    let t = answered (first_of tests) _ (sym c.phase.ensures ∙ c.in_ok-phase.was) in
    small y.fixed p y.state y.work y.pivots.now c.args.file.now c.args.values t.0

pub returns-then-values-wanted : goal.returns-then-values-wanted
returns-then-values-wanted c =
    let y = c.args.self in
    let p = y.progress in
    let tests = lent_tests y.fixed p y.state y.work (length y.pivots.now) in
    let t = answered (first_of tests) _ (sym c.phase.ensures ∙ c.in_ok-phase.was) in
    let o = open_told p.request p.stage (t.1 ∙ c.in-Open.is) in
    let f = sym c.file_fits.ensures ∙ c.in_ok-file_fits.was in
    other_length y.fixed p y.state y.work y.pivots.now c.args.file.now c.args.values t.0 f o c.wanted.ensures c.if-values-wanted.true

pub returns-then-all_below : goal.returns-then-all_below
returns-then-all_below c =
    let y = c.args.self in
    let p = y.progress in
    let tests = lent_tests y.fixed p y.state y.work (length y.pivots.now) in
    let t = answered (first_of tests) _ (sym c.phase.ensures ∙ c.in_ok-phase.was) in
    let o = open_told p.request p.stage (t.1 ∙ c.in-Open.is) in
    let f = sym c.file_fits.ensures ∙ c.in_ok-file_fits.was in
    let r = read y.fixed.n y.pivots.now c.in-Stage.field-0 c.in-Stage.is (rows y.fixed p y.state y.work y.pivots.now c.args.file.now c.args.values t.0) c.all_below.ensures in
    asked y.fixed p y.state y.work y.pivots.now c.args.file.now c.args.values t.0 f o c.wanted.ensures c.if-values-wanted.false (r ∙ ap not c.if-all_below.true)

pub returns-else-all_below : goal.returns-else-all_below
returns-else-all_below c =
    let y = c.args.self in
    let p = y.progress in
    let tests = lent_tests y.fixed p y.state y.work (length y.pivots.now) in
    let t = answered (first_of tests) _ (sym c.phase.ensures ∙ c.in_ok-phase.was) in
    let o = open_told p.request p.stage (t.1 ∙ c.in-Open.is) in
    let f = sym c.file_fits.ensures ∙ c.in_ok-file_fits.was in
    let r = read y.fixed.n y.pivots.now c.in-Stage.field-0 c.in-Stage.is (rows y.fixed p y.state y.work y.pivots.now c.args.file.now c.args.values t.0) c.all_below.ensures in
    pivots_off y.fixed p y.state y.work y.pivots.now c.args.file.now c.args.values t.0 f o c.wanted.ensures c.if-values-wanted.false (r ∙ ap not c.if-all_below.false)

pub returns-in_default-ask : goal.returns-in_default-ask
returns-in_default-ask c =
    let y = c.args.self in
    let p = y.progress in
    let tests = lent_tests y.fixed p y.state y.work (length y.pivots.now) in
    let t = answered (first_of tests) _ (sym c.phase.ensures ∙ c.in_ok-phase.was) in
    let o = open_told p.request p.stage (t.1 ∙ c.in-Open.is) in
    let f = sym c.file_fits.ensures ∙ c.in_ok-file_fits.was in
    asked y.fixed p y.state y.work y.pivots.now c.args.file.now c.args.values t.0 f o c.wanted.ensures c.if-values-wanted.false (unread y.fixed.n y.pivots.now c.in-Open.ask c.in_default-ask.not-Stage)
