use Rattle.std.proofs.Common.{arith}
use Rattle.care_rows.specs.Models.{IsUsed}
use Rattle.care_rows.proofs.ColumnLemmas.{so_far-start, so_far-more, so_far-all, used-kept}
use Rattle.care_rows.proofs.columns.mark_signals.Goals as goal

pub loop-signal-init : goal.loop-signal-init
loop-signal-init c = so_far-start IsUsed c.args.signals.now c.args.used.now

pub loop-signal-preserved : goal.loop-signal-preserved
loop-signal-preserved c =
    so_far-more IsUsed (λ old new s keeps is. used-kept old new s keeps is) c.args.signals.now c.args.used.now c.loop-signal.used c.mark_signal.new.used c.loop-signal.signal-index _ c.loop-signal-test.true
    c.loop-signal.invariant c.mark_signal.ensures.keeps c.mark_signal.ensures.marks

pub returns : goal.returns
returns c = record {
  keeps = c.loop-signal.invariant.keeps;
  marks = so_far-all IsUsed c.args.signals.now c.args.used.now c.loop-signal.used c.loop-signal.signal-index (omega arith) c.loop-signal.invariant;
}
