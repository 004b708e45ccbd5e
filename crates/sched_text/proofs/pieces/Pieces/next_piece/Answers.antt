use Rattle.std.proofs.Common.{◌+◌, ◌≤◌, length, ap, arith}
use Rattle.sched_text.proofs.Common.{option_map, BadLine, bad_line, is_lf}
use Rattle.sched_text.specs.Answers.{IsFault}
use Rattle.sched_text.proofs.PieceLemmas.{is_err, fault_here, next_here}
use Rattle.std.proofs.lemmas.List.{length-take-le}
use Rattle.std.proofs.lemmas.List.Sums.{count_by-le-length}
use Rattle.sched_text.proofs.pieces.Pieces.next_piece.Goals as goal

pub returns-in_err-piece-clause-fault : goal.returns-in_err-piece-clause-fault
returns-in_err-piece-clause-fault c =
    is_err c.from_residual.result c.in_err-piece.field-0.0
    (IsFault (option_map (λ n. BadLine n) (bad_line (c.args.self.now.before + 1) c.args.self.now.left.now)))
    c.from_residual.ensures.1
    (λ other. fault_here c.args.self.now.before c.args.self.now.left.now c.piece_len.result c.piece_len.ensures.some c.piece_len.ensures.inside c.piece_len.ensures.cut
    c.split_at.result.0.now c.split_at.result.1.now c.split_at.ensures.front c.split_at.ensures.back
    c.in_err-piece.field-0.0 (c.in_err-piece.ensures other))

pub returns-clause-next : goal.returns-clause-next
returns-clause-next c =
    next_here c.args.self.now.before c.args.self.now.left.now c.piece_len.result c.piece_len.ensures.some c.piece_len.ensures.inside c.piece_len.ensures.cut
    c.split_at.result.0.now c.split_at.result.1.now c.split_at.ensures.front c.split_at.ensures.back
    c.count_breaks.result c.in_ok-piece.piece c.count_breaks.ensures c.in_ok-piece.ensures.no_fault c.in_ok-piece.ensures.is

pub overflow_add-self : goal.overflow_add-self
overflow_add-self c =
    let front = c.split_at.result.0.now in
    let left = c.args.self.now.left.now in
    let shorter : length front ≤ length left = omega (arith, ap length c.split_at.ensures.front, length-take-le c.piece_len.result left c.piece_len.ensures.inside, c.piece_len.ensures.inside) in
    omega (arith, shorter, count_by-le-length is_lf front, c.count_breaks.ensures, c.requires)
