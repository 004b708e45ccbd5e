use Rattle.std.proofs.Common.{ap, ◌∙◌}
use Rattle.dot_text.proofs.Common.{Parts, gate_sig, appended_equal, picture_seen}
use Rattle.dot_text.proofs.GraphLemmas.{driven_drawn}
use Rattle.dot_text.proofs.explanation_graph.put_pin.Goals as goal

pub returns-in-Some : goal.returns-in-Some
returns-in-Some g c =
    appended_equal _ _ _ _
    (driven_drawn (picture_seen c.args.drawing.now) c.args.gate c.args.pin c.in-Some.source
    (c.in-Some.ensures.driven.1 ∙ ap (λ (net : Parts). gate_sig net c.in-Some.source) c.net.ensures.net))
    c.put_gate_wire.ensures
