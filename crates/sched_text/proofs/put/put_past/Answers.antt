use Rattle.std.proofs.Common.{arith}
use Rattle.sched_text.proofs.Common.{line_text, past_line, appended_none, appended_item, appended_in_item, appended_items}
use Rattle.sched_text.proofs.put.put_past.Goals as goal

pub loop-moment-init : goal.loop-moment-init
loop-moment-init g c = appended_none _ _ _

pub loop-moment-preserved : goal.loop-moment-preserved
loop-moment-preserved g c = appended_item (λ moment. line_text (past_line moment)) c.args.past.now c.loop-moment.moment-index c.moment-item.result _ _ _ _ _ _ _ _ (omega arith) c.moment-item.is c.loop-moment.invariant (rw c.items.ensures at c.in_ok-put_bits_line.ensures)

pub returns-in_err-put_bits_line : goal.returns-in_err-put_bits_line
returns-in_err-put_bits_line g c = appended_in_item (λ moment. line_text (past_line moment)) c.args.past.now c.loop-moment.moment-index c.moment-item.result _ _ _ _ _ _ _ _ _ (omega arith) c.moment-item.is c.loop-moment.invariant (rw c.items.ensures at c.in_err-put_bits_line.ensures) c.from_residual.ensures.0

pub returns : goal.returns
returns g c = appended_items (λ moment. line_text (past_line moment)) c.args.past.now c.loop-moment.moment-index _ _ (omega arith) c.loop-moment.invariant
