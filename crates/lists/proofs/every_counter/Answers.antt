-- `lists::every_counter` meets its contract: the theorems of Counting and Caches. Assumes nothing.
use Rattle.lists.proofs.Counting as counting
use Rattle.lists.proofs.Caches as caches
use Rattle.lists.proofs.every_counter.Goals as goal

pub returns : goal.returns
returns c = record { counts = counting.every_counter; caches = caches.every_cache }
