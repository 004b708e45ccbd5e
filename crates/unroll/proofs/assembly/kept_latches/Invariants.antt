use Rattle.std.proofs.Common.{◌≡◌, map, take}
use Rattle.unroll.proofs.Common.{kept_latch}
use Rattle.unroll.proofs.assembly.kept_latches.Given as goal

abbrev pub invariant-loop-number : goal.invariant-loop-number
invariant-loop-number l = l.latches.items ≡ map (kept_latch l.net l.by) (take l.number l.net.latches)
