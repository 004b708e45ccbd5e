use Rattle.std.proofs.Common.{false, arith}
use Rattle.sched_text.proofs.Common.{lines}
use Rattle.sched_text.proofs.PieceLemmas.{found_good, found_lines, found_bad, found_numbers, found_within, refused}
use Rattle.sched_text.proofs.pieces.piece_of.Goals as goal

pub invariant_of-result : goal.invariant_of-result
invariant_of-result c = found_numbers c.args.before c.args.piece.now c.in-Ok.lines 18446744073709551616 c.requires c.in-Ok.ensures

pub overflow_add-result : goal.overflow_add-result
overflow_add-result c = grind (arith, found_within c.args.before c.args.piece.now c.in-Err-BadByte.line 18446744073709551616 c.requires, refused c.in-Err-BadByte.field-0 c.in-Err-BadByte.line (lines c.args.piece.now false))

pub returns-in-Ok : goal.returns-in-Ok
returns-in-Ok c = grind (arith, found_good, found_lines)

pub returns-in-Err-BadByte : goal.returns-in-Err-BadByte
returns-in-Err-BadByte c = grind (arith, found_bad, refused)
