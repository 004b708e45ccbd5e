use Rattle.std.proofs.Common.{◌≡◌, ◌+◌, ◌*◌, ◌≤◌, length}
use Rattle.bdd_store.proofs.GrowthLemmas.{HasGrown}
use Rattle.dual_rail.proofs.Common.{function, IsTable, BoundsEach, IsExtended}
use Rattle.dual_rail.proofs.lifting.lift.Given as goal

abbrev pub invariant-loop-position : goal.invariant-loop-position
invariant-loop-position l = record {
  grows : HasGrown l.fn.d l.d (BoundsEach l.fn.d.vars (IsExtended l.fn.d l.pins (function l.local))) (2 * l.position);
  long : length l.table.items ≡ l.position + 1;
  table : IsTable l.local l.d l.pins l.table.items;
  within : l.position ≤ l.position-end;
}
