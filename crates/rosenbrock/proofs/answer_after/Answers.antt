-- `rosenbrock::answer_after` meets its contract. Assumes nothing.
use mathlib.Core.Path.{sym, ap, ◌∙◌}
use Rattle.std.specs.Prelude.{Some, None, Err}
use Rattle.std.proofs.lemmas.Result.{err_from_is_err_and}
use Rattle.stepping.specs.declared.Refusal.{Refusal}
use Rattle.phases.proofs.Halts.{ends_asked, ends_refused}
use Rattle.rosenbrock.specs.Outcomes.{answer_after}
use Rattle.rosenbrock.proofs.answer_after.Goals as goal

pub returns-in_err-moved : goal.returns-in_err-moved
unfolding answer_after
returns-in_err-moved c =
    let p = err_from_is_err_and c.from_residual.result c.from_residual.ensures.1 in
    λ m. p.1 ∙ ap (λ (r : Refusal). Err r) p.2 ∙ sym (ap answer_after (ends_refused c.args.moved.now m c.in_err-moved.was))

pub returns-in-Some : goal.returns-in-Some
unfolding answer_after
returns-in-Some c = λ m. sym (ap answer_after (ends_asked c.args.moved.now m (Some c.in-Some.field-0) c.in_ok-moved.was c.in-Some.ensures))

pub returns-in-None : goal.returns-in-None
unfolding answer_after
returns-in-None c = λ m. sym (ap answer_after (ends_asked c.args.moved.now m None c.in_ok-moved.was c.in-None.ensures))
