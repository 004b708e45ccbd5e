use Rattle.std.proofs.Common.{◌≡◌, ◌++◌, ℕ, List, length, take}
use Rattle.fixpoint.proofs.Common.{first_signals, AreTaken}
use Rattle.fixpoint.proofs.layout.take_read.Given as goal

abbrev pub invariant-loop-pin : goal.invariant-loop-pin
invariant-loop-pin l = record {
  width : length l.marks ≡ length l.fn.marks;
  taken : (from : List ℕ) → AreTaken from l.fn.marks l.fn.columns.items → AreTaken (from ++ first_signals (length l.fn.marks) (take l.pin-index l.pins)) l.marks l.columns.items;
}
