use Rattle.std.proofs.Common.{arith}
use Rattle.probes.specs.Texts.{change_text}
use Rattle.probes.proofs.TextLemmas.{texts_more}
use Rattle.probes.proofs.trace.show_trace.Goals as goal

pub loop-change-preserved : goal.loop-change-preserved
loop-change-preserved c = grind (arith, texts_more (change_text c.args.net.now) c.args.changes.now c.loop-change.change-index _ _ _ c.loop-change-test.true c.loop-change.invariant c.in_ok-put_change.ensures)
