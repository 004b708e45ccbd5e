use Rattle.std.proofs.Common.{arith}
use Rattle.report.proofs.Common.{trit_text, appended_none, appended_copied, appended_in_copied, appended_items}
use Rattle.report.proofs.tick.put_trits.Goals as goal

pub loop-t-init : goal.loop-t-init
loop-t-init g c = appended_none _ _ _

pub loop-t-preserved : goal.loop-t-preserved
loop-t-preserved g c = appended_copied trit_text c.args.trits.now c.loop-t.t-index _ _ _ _ _ _ _ _ _ (omega arith) c.loop-t.invariant (rw c.trit.ensures at c.in_ok-write_whole.ensures)

pub returns-in_err-write_whole : goal.returns-in_err-write_whole
returns-in_err-write_whole g c = appended_in_copied trit_text c.args.trits.now c.loop-t.t-index _ _ _ _ _ _ _ _ _ _ (omega arith) c.loop-t.invariant (rw c.trit.ensures at c.in_err-write_whole.ensures) c.from_residual.ensures.0

pub returns : goal.returns
returns g c = appended_items trit_text c.args.trits.now c.loop-t.t-index _ _ (omega arith) c.loop-t.invariant
