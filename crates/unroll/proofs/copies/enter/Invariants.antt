use Rattle.std.proofs.Common.{◌≡◌, ◌+◌, length, take}
use Rattle.unroll.proofs.Common.{entered}
use Rattle.unroll.proofs.copies.enter.Given as goal

abbrev pub invariant-loop-gate : goal.invariant-loop-gate
invariant-loop-gate l = record {
  table : l.table ≡ entered l.initial.table (take l.gate-index l.gates) l.first;
  width : length l.table ≡ length l.initial.table;
  signal : l.signal ≡ l.first + l.gate-index;
}
