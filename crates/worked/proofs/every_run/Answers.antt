-- `worked::every_run` meets its contract: each run is computed. Assumes nothing.
use Rattle.worked.proofs.Pond as pond
use Rattle.worked.proofs.Effective as effective
use Rattle.worked.proofs.TwoStage as two
use Rattle.worked.proofs.ThreeStage as three
use Rattle.worked.proofs.Printed as printed
use Rattle.worked.proofs.every_run.Goals as goal

pub returns : goal.returns
returns c =
    record {
      pond_is_made = pond.is_made;
      pond_runs = pond.pond_runs;
      small_is_made = effective.small_is_made;
      small_step = effective.small_step;
      small_runs = effective.small_runs;
      effective_is_made = effective.is_made;
      first_step = effective.first_step;
      second_step = effective.second_step;
      third_step = effective.third_step;
      effective_runs = effective.effective_runs;
      two_stage_is_made = two.is_made;
      two_stage_runs = two.two_stage_runs;
      two_stage_memory_1 = two.memory_1;
      two_stage_memory_2 = two.memory_2;
      two_stage_counters = two.counters;
      three_stage_is_made = three.is_made;
      three_stage_runs = three.three_stage_runs;
      pond_prints = printed.pond_prints;
    }
