-- The calls that a slice of orders stands for, and what the last of them hands back. Definitions only.
use Rattle.std.specs.Prelude.{ℕ, List, [], ◌∷◌, map}
use Rattle.rosenbrock.specs.Stepper.{Call, Next, stepped}
use Rattle.dispatch.specs.Orders.{call_of}
use Rattle.lists.specs.declared.Entry.{Entry}

unfoldable pub calls_of : List ℕ → List Entry → List Call
calls_of file entries = map (λ e. call_of e.order file e.values.now) entries

-- what the last call leaves and answers, and what was left and answered before where there is none
unfoldable pub last_of : Next → List Call → Next
last_of r [] = r
last_of r (c ∷ cs) = last_of (stepped c r.system) cs
