use Rattle.std.proofs.Common.{ap, sym, arith}
use Rattle.dot_text.proofs.Common.{flat_map, appended_equal, appended_none, appended_copied, appended_in_copied, appended_items, gate_box, picture_seen}
use Rattle.dot_text.proofs.explanation_graph.put_boxes.Goals as goal

pub loop-gate-init : goal.loop-gate-init
loop-gate-init g c = appended_none _ _ _

pub loop-gate-preserved : goal.loop-gate-preserved
loop-gate-preserved g c = appended_copied (gate_box (picture_seen c.args.drawing.now)) c.deref-gate-items.result.now c.loop-gate.gate-index _ _ _ _ _ _ _ _ _ (omega arith) c.loop-gate.invariant c.in_ok-put_box_of.ensures

pub returns-in_err-put_box_of : goal.returns-in_err-put_box_of
returns-in_err-put_box_of g c =
    appended_equal _ _ _ _ (ap (flat_map (gate_box (picture_seen c.args.drawing.now))) (sym c.deref-gate-items.ensures.value))
    (appended_in_copied (gate_box (picture_seen c.args.drawing.now)) c.deref-gate-items.result.now c.loop-gate.gate-index _ _ _ _ _ _ _ _ _ _ (omega arith) c.loop-gate.invariant c.in_err-put_box_of.ensures c.from_residual.ensures.0)

pub returns : goal.returns
returns g c =
    appended_equal _ _ _ _ (ap (flat_map (gate_box (picture_seen c.args.drawing.now))) (sym c.deref-gate-items.ensures.value))
    (appended_items (gate_box (picture_seen c.args.drawing.now)) c.deref-gate-items.result.now c.loop-gate.gate-index _ _ (omega arith) c.loop-gate.invariant)
