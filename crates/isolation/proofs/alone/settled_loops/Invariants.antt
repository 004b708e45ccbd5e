use Rattle.std.proofs.Common.{◌≡◌, ℕ, ◌<◌, ◌≤◌, true, length}
use Rattle.isolation.proofs.Common.{block_at, is_marked, SettleInSweeps}
use Rattle.isolation.proofs.alone.settled_loops.Given as goal

abbrev pub invariant-loop-place : goal.invariant-loop-place
invariant-loop-place l = record {
  width : length l.settled.items ≡ l.place;
  each : (b : ℕ) → b < l.place → (block_at l.looped.blocks b).looped ≡ true → is_marked l.settled.items b ≡ true → SettleInSweeps l.looped.net (block_at l.looped.blocks b).gates 1;
  nodes : l.nodes ≤ l.budget;
}
