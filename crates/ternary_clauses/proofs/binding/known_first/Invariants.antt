use Rattle.std.proofs.Common.{◌≤◌}
use Rattle.ternary_clauses.specs.Orders.{IsSameGate}
use Rattle.ternary_clauses.proofs.binding.known_first.Given as goal

abbrev pub invariant-loop-place : goal.invariant-loop-place
invariant-loop-place l = (l.front ≤ l.place) × IsSameGate l.fn.cover l.fn.pins l.pinned.cover l.pinned.pins.items
