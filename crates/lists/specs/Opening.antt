-- Which calls open an attempt. Definitions only.
use Rattle.std.specs.Prelude.{Bool, false, ◌&&◌, List, Float, Result, Ok, Err, is_ok}
use Rattle.stepping.specs.declared.Refusal.{Refusal}
use Rattle.stepping.specs.Refusals.{Test, first_of}
use Rattle.stepping.specs.Time.{endpoint_step}
use Rattle.refusals.specs.declared.Progress.{Progress}
use Rattle.refusals.specs.Answers.{Lent}
use Rattle.refusals.specs.Tests.{attempt_tests, step_tests}
use Rattle.rosenbrock.specs.Stepper.{Call, attempt, attempt_to, System, needed, trimmed}

-- the memory that a call works on
abbrev pub memory : System → Lent
memory y = trimmed (needed y.stepper.fixed) y.lent

-- all tests are passed
abbrev pub pass : List Test → Bool
pass tests = is_ok (first_of tests)

-- there is a step, and it passes its tests
unfoldable pub step_passes : Result Float Refusal → Progress → Bool
step_passes (Ok step) x = pass (step_tests step x)
step_passes (Err refusal) x = false

-- the call opens an attempt: it is one, and passes all its tests
unfoldable pub opens : Call → System → Bool
opens (attempt file step jacobian partial) y =
    let x = y.stepper.progress in pass (attempt_tests y.stepper.fixed file x (memory y)) && pass (step_tests step x)
opens (attempt_to file endpoint proposal jacobian partial) y =
    let x = y.stepper.progress in
    pass (attempt_tests y.stepper.fixed file x (memory y)) && step_passes (endpoint_step x.time endpoint proposal) x
opens c y = false
