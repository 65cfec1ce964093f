-- What `checked_time` tells of its tests. Assumes nothing.
use mathlib.Core.Path.{◌≡◌, refl, sym}
use lib.Ieee.{Float}
use Rattle.std.specs.Prelude.{Ok, Err}
use Rattle.float.specs.Operators.{◌⊕◌}
use Rattle.stepping.specs.Refusals.{first_of}
use Rattle.stepping.specs.Time.{time_tests, checked_time}
use Rattle.stepping.proofs.Refusals.{is_answered}

pub tests_reached : (time step : Float) → first_of (time_tests time step) ≡ Ok tt → checked_time time step ≡ Ok (time ⊕ step)
unfolding checked_time
tests_reached time step e = sym (is_answered Err e refl)
