-- `lists::readers_tell` meets its contract: the theorem of Telling. Assumes nothing.
use Rattle.lists.proofs.Telling as theorem
use Rattle.lists.proofs.readers_tell.Goals as goal

pub returns : goal.returns
returns c = record { tell_the_answer = theorem.readers_tell }
