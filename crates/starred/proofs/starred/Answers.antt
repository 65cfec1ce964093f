-- `starred::starred` meets its contract: the rows, each proved by itself. Assumes nothing.
use Rattle.starred.proofs.Theorem as theorem
use Rattle.starred.proofs.starred.Goals as goal

pub returns : goal.returns
returns c = theorem.starred
