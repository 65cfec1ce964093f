-- `in_place::accept_in_place` meets its contract. Assumes nothing.
use Rattle.std.proofs.lemmas.Result.{err_from_is_err_and}
use Rattle.in_place.proofs.Landings.{accept_refused, accept_done}
use Rattle.in_place.proofs.accept_in_place.Goals as goal

pub returns-in_err-outcome : goal.returns-in_err-outcome
returns-in_err-outcome c =
    let p = err_from_is_err_and c.from_residual.result c.from_residual.ensures.1 in
    rw (p.1, p.2) (accept_refused c.accept-outcome.result c.accept-outcome.new.state c.args.work.now c.args.pivots.now _ c.accept-outcome.ensures c.in_err-outcome.was)

pub returns : goal.returns
returns c = accept_done c.accept-outcome.result c.accept-outcome.new.state c.args.work.now c.args.pivots.now _ c.accept-outcome.ensures c.in_ok-outcome.was
