use Rattle.std.proofs.Common.{◌≡◌, map}
use Rattle.loops.proofs.Common.{range_with_len}
use Rattle.loops.specs.Members.{members_below}
use Rattle.loops.proofs.blocks.grouped.Given as goal

abbrev pub invariant-loop-gate : goal.invariant-loop-gate
invariant-loop-gate l = l.lists.items ≡ map (members_below l.homes l.gate) (range_with_len 0 l.count)
