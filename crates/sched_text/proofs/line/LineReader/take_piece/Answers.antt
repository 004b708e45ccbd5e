use Rattle.std.proofs.Common.{◌≡◌, ◌≢◌, ◌+◌, cond, Some, length, arith, ap, ◌∙◌}
use Rattle.sched_text.proofs.Common.{is_tick, seen, follow}
use Rattle.sched_text.specs.declared.fault.SchedFault.TheVariants.{Memory}
use Rattle.sched_text.specs.ReadingOn.{FailsPiece}
use Rattle.sched_text.proofs.PieceLemmas.{is_err}
use Rattle.sched_text.proofs.ReadingLemmas.{piece_next, piece_fault}
use Rattle.sched_text.proofs.line.LineReader.take_piece.Goals as goal

pub loop-i-init : goal.loop-i-init
loop-i-init c = grind arith

pub loop-i-preserved : goal.loop-i-preserved
loop-i-preserved c =
    let few = c.loop-i.invariant.few in
    record {
      few = omega (arith, few, c.after-next.ensures.few);
      reads = piece_next c.args.self.now.net.now c.args.self.now.ticks c.args.self.now.end c.args.lines.now c.args.place (seen c.args.draft.now)
          c.loop-i.next (seen c.loop-i.draft) c.loop-i.i c.loop-i.invariant.reads (omega (arith, c.loop-i-test.true, c.len-i-end.ensures))
          c.after-next.result (seen c.take.new.self) (rw c.line-line.ensures at c.in_ok-said.ensures.no_fault)
          (c.in_ok-take.ensures ∙ ap (follow (seen c.loop-i.draft)) (rw c.line-line.ensures at c.in_ok-said.ensures.is))
          (c.after-next.ensures.before ∙ ap (λ k. Some k) (rw c.line-line.ensures at c.kind_at-kind.ensures))
          (c.after-next.ensures.begun ∙ ap (λ k. cond (is_tick k) 1 0 + c.loop-i.next.begun) (rw c.line-line.ensures at c.kind_at-kind.ensures))
          c.after-next.ensures.few;
    }

pub returns-in_err-said-clause-fault : goal.returns-in_err-said-clause-fault
returns-in_err-said-clause-fault c =
    is_err c.from_residual.result c.in_err-said.field-0.0
    (λ fault. fault ≢ Memory → FailsPiece c.args.self.now.net.now c.args.self.now.ticks c.args.self.now.end c.args.lines.now c.args.place (seen c.args.draft.now) fault)
    c.from_residual.ensures.1
    (λ other. piece_fault c.args.self.now.net.now c.args.self.now.ticks c.args.self.now.end c.args.lines.now c.args.place (seen c.args.draft.now)
    c.loop-i.next (seen c.loop-i.draft) c.loop-i.i c.loop-i.invariant.reads (omega (arith, c.loop-i-test.true, c.len-i-end.ensures))
    c.in_err-said.field-0.0 (rw c.line-line.ensures at c.in_err-said.ensures other))

pub returns-clause-read : goal.returns-clause-read
returns-clause-read c =
    let e : length c.args.lines.now ≡ c.loop-i.i = omega (arith, c.loop-i-test.false, c.len-i-end.ensures, c.loop-i.auto.i-end) in
    rw e c.loop-i.invariant.reads
