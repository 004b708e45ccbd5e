use Rattle.std.proofs.Common.{◌≡◌, ◌≤◌, ◌+◌, length}
use Rattle.sched_text.proofs.Common.{bad_line}
use Rattle.sched_text.proofs.text.check_rest.Given as goal

abbrev pub invariant-loop-piece : goal.invariant-loop-piece
invariant-loop-piece l =
    record {
      bad : bad_line (l.fn.pieces.before + 1) l.fn.pieces.left.now ≡ bad_line (l.pieces.before + 1) l.pieces.left.now;
      small : l.pieces.before + length l.pieces.left.now ≤ l.fn.pieces.before + length l.fn.pieces.left.now;
    }

abbrev pub decreases-loop-piece : goal.decreases-loop-piece
decreases-loop-piece l = length l.pieces.left.now
