use Rattle.std.proofs.Common.{arith}
use Rattle.cyc_base.proofs.ListLemmas.{item_at}
use Rattle.blif_write.proofs.Common.{line_text, latch_line, appended_none, appended_item, appended_in_item, appended_items}
use Rattle.blif_write.proofs.latches.put_latches.Goals as goal

pub loop-i-init : goal.loop-i-init
loop-i-init g c = appended_none _ _ _

pub loop-i-preserved : goal.loop-i-preserved
loop-i-preserved g c = appended_item (λ latch. line_text (latch_line c.args.net.now latch)) c.args.net.now.latches c.loop-i.i c.latch.result.now _ _ _ _ _ _ _ _ (omega arith) (item_at c.args.net.now.latches c.loop-i.i c.latch.result.now c.latch.ensures.latch) c.loop-i.invariant c.in_ok-put_latch.ensures

pub returns-in_err-put_latch : goal.returns-in_err-put_latch
returns-in_err-put_latch g c = appended_in_item (λ latch. line_text (latch_line c.args.net.now latch)) c.args.net.now.latches c.loop-i.i c.latch.result.now _ _ _ _ _ _ _ _ _ (omega arith) (item_at c.args.net.now.latches c.loop-i.i c.latch.result.now c.latch.ensures.latch) c.loop-i.invariant c.in_err-put_latch.ensures c.from_residual.ensures.0

pub returns : goal.returns
returns g c = appended_items (λ latch. line_text (latch_line c.args.net.now latch)) c.args.net.now.latches c.loop-i.i _ _ (omega arith) c.loop-i.invariant
