-- The runs of specs/Pond, by computation. Assumes nothing.
use mathlib.Core.Path.{refl}
use Rattle.worked.proofs.Opened.{computing}
use Rattle.worked.specs.Pond.{begun, file, lent, PondIsMade, PondRuns}

pub is_made : PondIsMade
unfolding computing file lent begun
is_made = refl

pub pond_runs : PondRuns
unfolding computing file lent begun
pond_runs = refl
