use Rattle.std.proofs.Common.{ap, sym}
use Rattle.dot_text.proofs.Common.{flat_map, appended_cut, appended_equal, appended_then, gate_box, gate_node, pin_wires, picture_seen}
use Rattle.dot_text.proofs.explanation_graph.put_picture.Goals as goal

pub returns-in_err-put_boxes : goal.returns-in_err-put_boxes
returns-in_err-put_boxes g c =
    appended_cut _ _ _ _ _ (appended_equal _ _ _ _ (ap (flat_map (gate_box (picture_seen c.args.drawing.now))) (sym c.args.drawing.now.drawn)) c.in_err-put_boxes.ensures) c.from_residual.ensures.0

pub returns-in_err-put_gates : goal.returns-in_err-put_gates
returns-in_err-put_gates g c =
    appended_then _ _ _ _ _ _ _ _ _ _
    (appended_equal _ _ _ _ (ap (flat_map (gate_box (picture_seen c.args.drawing.now))) (sym c.args.drawing.now.drawn)) c.in_ok-put_boxes.ensures)
    (appended_cut _ _ _ _ _ (appended_equal _ _ _ _ (ap (flat_map (gate_node (picture_seen c.args.drawing.now))) (sym c.args.drawing.now.drawn)) c.in_err-put_gates.ensures)
    c.from_residual-in_err-put_gates.ensures.0)

pub returns : goal.returns
returns g c =
    appended_then _ _ _ _ _ _ _ _ _ _
    (appended_equal _ _ _ _ (ap (flat_map (gate_box (picture_seen c.args.drawing.now))) (sym c.args.drawing.now.drawn)) c.in_ok-put_boxes.ensures)
    (appended_then _ _ _ _ _ _ _ _ _ _
    (appended_equal _ _ _ _ (ap (flat_map (gate_node (picture_seen c.args.drawing.now))) (sym c.args.drawing.now.drawn)) c.in_ok-put_gates.ensures)
    (appended_equal _ _ _ _ (ap (flat_map (pin_wires (picture_seen c.args.drawing.now))) (sym c.args.drawing.now.drawn)) c.put_wires.ensures))
