-- The runs of specs/TwoStage, by computation. Assumes nothing.
use mathlib.Core.Path.{refl}
use Rattle.worked.proofs.Opened.{computing}
use Rattle.worked.specs.TwoStage.{begun, file, lent, TwoStageIsMade, TwoStageRuns, TwoStageMemory1, TwoStageMemory2, TwoStageCounters}

pub is_made : TwoStageIsMade
unfolding computing file lent begun
is_made = refl

pub two_stage_runs : TwoStageRuns
unfolding computing file lent begun
two_stage_runs = refl

pub memory_1 : TwoStageMemory1
unfolding computing file lent begun
memory_1 = refl

pub memory_2 : TwoStageMemory2
unfolding computing file lent begun
memory_2 = refl

pub counters : TwoStageCounters
unfolding computing file lent begun
counters = refl
