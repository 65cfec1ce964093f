-- The runs of specs/ThreeStage, by computation. Assumes nothing.
use mathlib.Core.Path.{refl}
use Rattle.worked.proofs.Opened.{computing}
use Rattle.worked.specs.ThreeStage.{begun, file, lent, ThreeStageIsMade, ThreeStageRuns}

pub is_made : ThreeStageIsMade
unfolding computing file lent begun
is_made = refl

pub three_stage_runs : ThreeStageRuns
unfolding computing file lent begun
three_stage_runs = refl
