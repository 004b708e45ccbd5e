use Rattle.std.proofs.Common.{length}
use Rattle.sched_text.proofs.Common.{seen}
use Rattle.sched_text.proofs.ReadingLemmas.{AtPiece}
use Rattle.sched_text.proofs.text.read_lines.Given as goal

abbrev pub invariant-loop-lines : goal.invariant-loop-lines
invariant-loop-lines l = AtPiece l.net l.ticks l.end l.bytes l.pieces.before l.pieces.left.now l.place (seen l.draft)

abbrev pub decreases-loop-lines : goal.decreases-loop-lines
decreases-loop-lines l = length l.pieces.left.now
