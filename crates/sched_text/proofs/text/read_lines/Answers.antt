use Rattle.std.proofs.Common.{arith}
use Rattle.sched_text.proofs.Common.{seen}
use Rattle.sched_text.proofs.ReadingLemmas.{few, at_later, fails_here}
use Rattle.sched_text.proofs.text.read_lines.Goals as goal

pub take_piece-requires : goal.take_piece-requires
take_piece-requires c =
    grind (arith, few, few c.args.net.now c.args.ticks c.end_line-end.result c.args.bytes.now c.end_line-end.ensures c.loop-lines.pieces.before c.loop-lines.pieces.left.now c.loop-lines.place (seen c.loop-lines.draft) c.loop-lines.invariant c.next_piece.new.self.before c.next_piece.new.self.left.now c.in-Some.lines)

pub returns-in-Err : goal.returns-in-Err
returns-in-Err c = record {
  read = tt;
  fault = λ other. fails_here c.args.net.now c.args.ticks c.end_line-end.result c.args.bytes.now c.end_line-end.ensures c.loop-lines.pieces.before c.loop-lines.pieces.left.now c.loop-lines.place (seen c.loop-lines.draft) c.loop-lines.invariant c.next_piece.new.self.before c.next_piece.new.self.left.now c.in-Some.lines
      (rw c.in-Some.is at c.in_ok-lines.ensures.next)
      c.in-Err.fault (c.in-Err.ensures.fault other) c.in_ok-check_rest-in-Err.ensures.none;
}

pub loop-lines-preserved : goal.loop-lines-preserved
loop-lines-preserved c =
    grind (arith, at_later c.args.net.now c.args.ticks c.end_line-end.result c.args.bytes.now c.end_line-end.ensures c.loop-lines.pieces.before c.loop-lines.pieces.left.now c.loop-lines.place (seen c.loop-lines.draft) c.loop-lines.invariant c.next_piece.new.self.before c.next_piece.new.self.left.now c.in-Some.lines)
