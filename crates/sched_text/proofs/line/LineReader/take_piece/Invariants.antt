use Rattle.std.proofs.Common.{◌≤◌, ◌+◌}
use Rattle.sched_text.proofs.Common.{seen, ReadsPiece}
use Rattle.sched_text.proofs.line.LineReader.take_piece.Given as goal

abbrev pub invariant-loop-i : goal.invariant-loop-i
invariant-loop-i l =
    record {
      few : l.next.begun ≤ l.fn.place.begun + l.i;
      reads : ReadsPiece l.self.net.now l.self.ticks l.self.end l.lines l.fn.place (seen l.fn.draft) l.next (seen l.draft) l.i;
    }
