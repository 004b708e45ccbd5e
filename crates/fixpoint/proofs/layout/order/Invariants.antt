use Rattle.std.proofs.Common.{◌≡◌, ◌++◌, length, take}
use Rattle.fixpoint.proofs.Common.{range_with_len, first_gate, columns_read, AreTaken}
use Rattle.fixpoint.proofs.layout.order.Given as goal

abbrev pub invariant-loop-gate : goal.invariant-loop-gate
invariant-loop-gate l = record {
  width : length l.marks.items ≡ first_gate l.net;
  taken : AreTaken (columns_read (first_gate l.net) (take l.gate l.net.gates)) l.marks.items l.columns.items;
}

abbrev pub invariant-loop-column : goal.invariant-loop-column
invariant-loop-column l = record {
  width : length l.marks.items ≡ first_gate l.net;
  taken : AreTaken (columns_read (first_gate l.net) l.net.gates ++ range_with_len 0 l.column) l.marks.items l.columns.items;
}
