-- accept and reject on a lent record: done, or a refusal. Definitions only.
use Rattle.std.specs.Prelude.{ℕ, List, Float, Result, ⊤}
use Rattle.stepping.specs.declared.Refusal.{Refusal}
use Rattle.stepping.specs.Refusals.{unless_refused}
use Rattle.rosenbrock.specs.declared.RosenbrockStepper.{RosenbrockStepper}
use Rattle.refusals.specs.Answers.{refused, done}
use Rattle.rosenbrock.specs.Stepper.{Next}
use Rattle.rosenbrock.specs.Outcomes.{system_of}

-- the record, the answer and the lent memory, as the definitions have them
unfoldable pub landed : RosenbrockStepper → Result ⊤ Refusal → List Float → List Float → List ℕ → Next
landed y answer state work pivots = record { system = system_of y state work pivots; answer = unless_refused refused answer done }
