-- `refusals::Record::request` meets its contract where something is asked. Assumes nothing.
use mathlib.Core.Path.{sym, ap, ◌∙◌}
use mathlib.Core.List.{[]}
use lib.ListN.{length}
use Rattle.std.specs.Prelude.{Ok, Err}
use Rattle.attempts.specs.declared.Ask.{Ask}
use Rattle.stepping.specs.declared.Refusal.TheVariants.{NoRequest}
use Rattle.stepping.specs.Refusals.{first_of}
use Rattle.stepping.proofs.Refusals.{none, holds_later, all_passed, is_answered}
use Rattle.refusals.specs.Tests.{lent_tests, fail_rest}
use Rattle.refusals.proofs.Phases.{answered, open_told}
use Rattle.refusals.proofs.Record.request.Goals as goal

pub returns-in-Open : goal.returns-in-Open
returns-in-Open c =
    let y = c.args.self in
    let p = y.progress in
    let tests = lent_tests y.fixed p y.state y.work (length y.pivots.now) in
    let t = answered (first_of tests) _ (sym c.phase.ensures ∙ c.in_ok-ask.was) in
    let o = open_told p.request p.stage (t.1 ∙ c.in-Open.is) in
    is_answered Err (all_passed tests (fail_rest p) t.0 ∙ holds_later NoRequest [] o.of_open none) (ap (λ (a : Ask). Ok a) (sym o.asks))
