use Rattle.std.proofs.Common.{List, ℕ, ap, ap₂, sym, ◌∙◌}
use Rattle.cyc_base.specs.declared.sig.Sig.{Sig}
use Rattle.dot_text.proofs.Common.{loops_of, Parts, gate_sig, appended_equal, appended_none}
use Rattle.dot_text.specs.Dot.{wire}
use Rattle.dot_text.specs.LoopGraphs.{wire_style}
use Rattle.dot_text.proofs.GraphLemmas.{wire_drawn, wire_left}
use Rattle.dot_text.proofs.loop_graph.put_pin.Goals as goal

pub returns-in-Some : goal.returns-in-Some
returns-in-Some g c =
    appended_equal _ _ _ _
    (wire_drawn c.args.looped.now.net (loops_of c.args.looped.now.net) c.args.gate c.args.pin c.in-Some.source c.in-Some.ensures.source
    ∙ ap₂ (λ (s : Sig) (style : List ℕ). wire c.args.pin.0 s.0 style)
    (ap (λ (net : Parts). gate_sig net c.args.gate) (sym c.net.ensures.net) ∙ sym c.gate_sig.ensures.sig)
    (ap wire_style (sym c.is_cut.ensures) ∙ sym c.wire_style.ensures))
    c.put_wire.ensures

pub returns-in-None : goal.returns-in-None
returns-in-None g c =
    appended_equal _ _ _ _
    (wire_left c.args.looped.now.net (loops_of c.args.looped.now.net) c.args.gate c.args.pin c.in-None.ensures.source)
    (appended_none _ _ _)
