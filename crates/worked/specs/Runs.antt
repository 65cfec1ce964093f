-- Every run at once. Definitions only.
use Rattle.worked.specs.Pond.{PondIsMade, PondRuns}
use Rattle.worked.specs.Effective.{SmallIsMade, SmallStep, SmallRuns, EffectiveIsMade, FirstStep, SecondStep, ThirdStep, EffectiveRuns}
use Rattle.worked.specs.TwoStage.{TwoStageIsMade, TwoStageRuns, TwoStageMemory1, TwoStageMemory2, TwoStageCounters}
use Rattle.worked.specs.ThreeStage.{ThreeStageIsMade, ThreeStageRuns}
use Rattle.worked.specs.Printed.{PondPrints}

pub record EveryRun : Type 0 where
  pub pond_is_made : PondIsMade
  pub pond_runs : PondRuns
  pub small_is_made : SmallIsMade
  pub small_step : SmallStep
  pub small_runs : SmallRuns
  pub effective_is_made : EffectiveIsMade
  pub first_step : FirstStep
  pub second_step : SecondStep
  pub third_step : ThirdStep
  pub effective_runs : EffectiveRuns
  pub two_stage_is_made : TwoStageIsMade
  pub two_stage_runs : TwoStageRuns
  pub two_stage_memory_1 : TwoStageMemory1
  pub two_stage_memory_2 : TwoStageMemory2
  pub two_stage_counters : TwoStageCounters
  pub three_stage_is_made : ThreeStageIsMade
  pub three_stage_runs : ThreeStageRuns
  pub pond_prints : PondPrints
