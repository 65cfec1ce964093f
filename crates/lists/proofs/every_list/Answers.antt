-- `lists::every_list` meets its contract: the theorems of EveryList. Assumes nothing.
use Rattle.lists.proofs.EveryList as theorem
use Rattle.lists.proofs.every_list.Goals as goal

pub returns : goal.returns
returns c =
    record {
      by_the_book = theorem.every_list;
      always_fits = theorem.always_fits;
      tail_untouched = theorem.tail_untouched;
      readers_change_nothing = theorem.readers_change_nothing;
    }
