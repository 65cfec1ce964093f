-- `steps_end::every_step` meets its contract: the theorems of Ends. Assumes nothing.
use Rattle.steps_end.proofs.Ends as theorem
use Rattle.steps_end.proofs.every_step.Goals as goal

pub returns : goal.returns
returns c = record { step_ends = theorem.step_ends; not_over = theorem.not_over }
