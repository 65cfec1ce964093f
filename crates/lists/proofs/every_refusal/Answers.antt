-- `lists::every_refusal` meets its contract: the theorem of Refused. Assumes nothing.
use Rattle.lists.proofs.Refused as theorem
use Rattle.lists.proofs.every_refusal.Goals as goal

pub returns : goal.returns
returns c = record { changes_nothing_or_closes = theorem.every_refusal }
