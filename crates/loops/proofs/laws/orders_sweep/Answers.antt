use Rattle.loops.proofs.Unique.{sweep_is_the_one}
use Rattle.loops.proofs.OrderedSweeps.{sweep_of_one_loop, ordered_sweep_is_sweep}
use Rattle.loops.proofs.laws.orders_sweep.Goals as goal

pub returns : goal.returns
returns c = record {
  one = sweep_is_the_one;
  one_loop = sweep_of_one_loop;
  ordered = ordered_sweep_is_sweep;
}
