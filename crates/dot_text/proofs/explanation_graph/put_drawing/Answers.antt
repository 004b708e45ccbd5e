use Rattle.std.proofs.Common.{ap, sym}
use Rattle.dot_text.proofs.Common.{Parts, appended_equal, appended_then, appended_cut}
use Rattle.dot_text.specs.Dot.{graph_head}
use Rattle.dot_text.specs.RefusalGraphs.{wire_label}
use Rattle.dot_text.proofs.explanation_graph.put_drawing.Goals as goal

pub returns-in_err-open_wire_graph : goal.returns-in_err-open_wire_graph
returns-in_err-open_wire_graph g c =
    appended_cut _ _ _ _ _ (appended_equal _ _ _ _ (ap (λ (net : Parts). graph_head (wire_label net c.args.wire)) (sym c.net.ensures.net)) c.in_err-open_wire_graph.ensures)
    c.from_residual.ensures.0

pub returns-in_err-put_picture : goal.returns-in_err-put_picture
returns-in_err-put_picture g c =
    appended_then _ _ _ _ _ _ _ _ _ _
    (appended_equal _ _ _ _ (ap (λ (net : Parts). graph_head (wire_label net c.args.wire)) (sym c.net.ensures.net)) c.in_ok-open_wire_graph.ensures)
    (appended_cut _ _ _ _ _ c.in_err-put_picture.ensures c.from_residual-in_err-put_picture.ensures.0)

pub returns : goal.returns
returns g c =
    appended_then _ _ _ _ _ _ _ _ _ _
    (appended_equal _ _ _ _ (ap (λ (net : Parts). graph_head (wire_label net c.args.wire)) (sym c.net.ensures.net)) c.in_ok-open_wire_graph.ensures)
    (appended_then _ _ _ _ _ _ _ _ _ _ c.in_ok-put_picture.ensures c.write_whole.ensures)
