-- The call that an order stands for, with the file and the values lent beside it. Definitions only.
use Rattle.std.specs.Prelude.{ℕ, List, Float}
use Rattle.rosenbrock.specs.Stepper.{Call, attempt, attempt_to, supply, fail, accept, reject, inject_derivative, reset, by_value}
use Rattle.dispatch.specs.declared.Order.{Order}
use Rattle.dispatch.specs.declared.Order.TheVariants.{Attempt, AttemptTo, Supply, Fail, Accept, Reject, InjectDerivative, Reset}

unfoldable pub call_of : Order → List ℕ → List Float → Call
call_of (Attempt step jacobian partial) file values = attempt file step jacobian partial
call_of (AttemptTo endpoint proposal jacobian partial) file values = attempt_to file endpoint proposal jacobian partial
call_of Supply file values = supply file values
call_of Fail file values = fail
call_of Accept file values = accept by_value
call_of Reject file values = reject by_value
call_of InjectDerivative file values = inject_derivative values
call_of (Reset time) file values = reset time values
