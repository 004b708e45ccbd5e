use Rattle.std.proofs.Common.{◌≡◌, ℕ, ◌+◌, ◌-◌, ◌*◌, length, drop}
use Rattle.flatten.proofs.Common.{Result, FlatFault}
use Rattle.flatten.specs.Counting.{Leave}
use Rattle.flatten.proofs.count.+room.Given as goal

abbrev pub decreases-room_behind : goal.decreases-room_behind
decreases-room_behind l = 3 * (l.hierarchy.now.depth + 1 - length l.trail.now.items) + 2

abbrev pub decreases-room_behind_item : goal.decreases-room_behind_item
decreases-room_behind_item l = 3 * (l.hierarchy.now.depth + 1 - length l.trail.now.items) + 1

abbrev pub decreases-room_behind_part : goal.decreases-room_behind_part
decreases-room_behind_part l = 3 * (l.hierarchy.now.depth + 1 - length l.trail.now.items)

abbrev pub invariant-room_behind-loop-item : goal.invariant-room_behind-loop-item
invariant-room_behind-loop-item l = record {
  same : l.trail.items ≡ l.initial.trail.items;
  so_far : (answer : Result ℕ FlatFault) → Leave l.hierarchy.depth l.hierarchy.models l.initial.trail.items (drop l.item-index l.body) l.left answer → Leave l.hierarchy.depth l.hierarchy.models l.initial.trail.items l.body l.fn.room answer;
}
