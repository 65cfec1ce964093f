-- `lists::always_finite` meets its contract: the theorem of Finite. Assumes nothing.
use Rattle.lists.proofs.Finite as theorem
use Rattle.lists.proofs.always_finite.Goals as goal

pub returns : goal.returns
returns c = record { state_and_candidate = theorem.always_finite }
