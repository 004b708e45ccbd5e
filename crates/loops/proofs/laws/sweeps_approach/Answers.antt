use Rattle.loops.proofs.Sweeps.{sweeps_stay_below_fix, sweeps_rise, still_is_fix, fixed_cuts_give_fix, few_sweeps_are_enough, count_is_small}
use Rattle.loops.proofs.Counts.{count_is_of_loops}
use Rattle.loops.proofs.laws.sweeps_approach.Goals as goal

pub returns : goal.returns
returns c = record {
  below = sweeps_stay_below_fix;
  rise = sweeps_rise;
  still = still_is_fix;
  fixed = fixed_cuts_give_fix;
  few = few_sweeps_are_enough;
  count = count_is_small;
  of_loops = count_is_of_loops;
}
