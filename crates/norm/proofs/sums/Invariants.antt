-- `norm::sums`: of the components passed, what a finite sum tells, and the sum.
use mathlib.Core.Path.{◌≡◌}
use mathlib.Core.Bool.{true}
use lib.Ieee.Scale.{finite}
use Rattle.norm.specs.ErrorNorm.{ratio, sum_of_squares}
use Rattle.norm.proofs.Terms.{first_finite}
use Rattle.norm.proofs.sums.Given as goal

abbrev pub invariant-loop-i : goal.invariant-loop-i
invariant-loop-i l =
    (finite l.squared_norm ≡ true → first_finite l.error l.i ≡ true)
    × (finite l.values ≡ true → (first_finite l.state l.i ≡ true) × (first_finite l.candidate l.i ≡ true))
    × (first_finite l.state l.i ≡ true → first_finite l.candidate l.i ≡ true → l.squared_norm ≡ sum_of_squares (ratio l.absolute l.relative l.state l.candidate l.error) l.i)
