use Rattle.explain_text.proofs.ReadLemmas.{among_more}
use Rattle.explain_text.proofs.columns.mark_columns.Goals as goal

pub loop-signal-preserved : goal.loop-signal-preserved
loop-signal-preserved c =
    among_more c.args.signals.now c.loop-signal.signal-index _ c.args.read.now c.loop-signal.read c.mark_column.new.read c.loop-signal-test.true
    c.loop-signal.invariant c.mark_column.ensures
