use Rattle.std.proofs.Common.{◌≡◌, ◌≤◌, ◌*◌}
use Rattle.unroll.proofs.Common.{range_with_len, sum_by, copies_of, counted_sweeps}
use Rattle.loops.specs.Cuts.{in_one_loop}
use Rattle.unroll.proofs.sizes.all_copies.Given as goal

abbrev pub invariant-loop-gate : goal.invariant-loop-gate
invariant-loop-gate l = record {
  all : l.all ≡ sum_by (copies_of (in_one_loop l.counted.blocks) (counted_sweeps l.counted)) (range_with_len 0 l.gate);
  bound : l.all ≤ l.gate * 4294967295;
}
