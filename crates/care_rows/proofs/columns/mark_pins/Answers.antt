use Rattle.care_rows.proofs.ColumnLemmas.{pins-start, pins-more}
use Rattle.care_rows.proofs.columns.mark_pins.Goals as goal

pub loop-gate-init : goal.loop-gate-init
loop-gate-init c = pins-start c.args.net.now c.args.cone.now c.args.used.now

pub loop-gate-preserved : goal.loop-gate-preserved
loop-gate-preserved c =
    pins-more c.args.net.now c.args.cone.now c.args.used.now c.loop-gate.used c.mark_pins_of.new.used c.loop-gate.gate c.loop-gate.invariant c.mark_pins_of.ensures.keeps c.mark_pins_of.ensures.marks
