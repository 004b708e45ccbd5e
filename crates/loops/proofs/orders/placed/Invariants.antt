use Rattle.std.proofs.Common.{◌≡◌, ◌<◌, ℕ, length, get_or}
use Rattle.loops.proofs.orders.placed.Given as goal

abbrev pub invariant-loop-place : goal.invariant-loop-place
invariant-loop-place l = record {
  size : length l.order.items ≡ l.count;
  each : (a : ℕ) → a < l.place → get_or l.order.items (get_or l.home a 0) 0 ≡ get_or l.gates a 0;
}
