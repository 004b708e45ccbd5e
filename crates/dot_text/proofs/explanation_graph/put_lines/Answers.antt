use Rattle.std.proofs.Common.{arith}
use Rattle.dot_text.proofs.Common.{appended_none, appended_copied, appended_in_copied, appended_items, quoted_line, picture_seen}
use Rattle.dot_text.proofs.explanation_graph.put_lines.Goals as goal

pub loop-pin-init : goal.loop-pin-init
loop-pin-init g c = appended_none _ _ _

pub loop-pin-preserved : goal.loop-pin-preserved
loop-pin-preserved g c = appended_copied (quoted_line (picture_seen c.args.drawing.now) c.args.gate) c.args.pins.now c.loop-pin.pin-index _ _ _ _ _ _ _ _ _ (omega arith) c.loop-pin.invariant c.in_ok-put_line.ensures

pub returns-in_err-put_line : goal.returns-in_err-put_line
returns-in_err-put_line g c = appended_in_copied (quoted_line (picture_seen c.args.drawing.now) c.args.gate) c.args.pins.now c.loop-pin.pin-index _ _ _ _ _ _ _ _ _ _ (omega arith) c.loop-pin.invariant c.in_err-put_line.ensures c.from_residual.ensures.0

pub returns : goal.returns
returns g c = appended_items (quoted_line (picture_seen c.args.drawing.now) c.args.gate) c.args.pins.now c.loop-pin.pin-index _ _ (omega arith) c.loop-pin.invariant
