use Rattle.std.proofs.Common.{◌≡◌, ◌≤◌, length}
use Rattle.loop_simulation.proofs.Common.{columns}
use Rattle.loop_simulation.proofs.climbing.climb_from.Given as goal

abbrev pub invariant-loop-turn : goal.invariant-loop-turn
invariant-loop-turn l = record {
  width : length l.candidate.vector.items ≡ columns l.on_care.block.now.net;
  failed : l.failed ≤ length l.on_care.upstream.now.columns.items;
}
