-- `method::every_attempt` meets its contract: the theorems of Turns and of Attempt. Assumes nothing.
use Rattle.method.proofs.Turns.{attempt_is_step_of_its_answers, attempt_to_is_attempt}
use Rattle.method.proofs.Attempt.{attempt_is_step}
use Rattle.method.proofs.every_attempt.Goals as goal

pub returns : goal.returns
returns c = record { for_any_host = attempt_is_step_of_its_answers; to_an_endpoint = attempt_to_is_attempt; for_functions = attempt_is_step }
