-- `lists::accepted_changes` meets its contract: the theorems of Accepting. Assumes nothing.
use Rattle.lists.proofs.Accepting as theorem
use Rattle.lists.proofs.accepted_changes.Goals as goal

pub returns : goal.returns
returns c =
    record {
      others_leave_it = theorem.others_leave_it;
      accept_takes_the_candidate = theorem.accept_takes_the_candidate;
      reset_takes_both = theorem.reset_takes_both;
    }
