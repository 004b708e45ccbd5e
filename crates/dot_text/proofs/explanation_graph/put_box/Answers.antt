use Rattle.std.proofs.Common.{◌≡◌, ap, sym, ◌∙◌}
use Rattle.cyc_base.specs.declared.sig.Sig.{Sig}
use Rattle.dot_text.specs.Dot.{box}
use Rattle.dot_text.specs.ExplanationGraphs.{pin_line}
use Rattle.dot_text.proofs.Common.{flat_map, Parts, gate_sig, appended_equal, appended_then, appended_cut, picture_seen}
use Rattle.dot_text.proofs.GraphLemmas.{box_lines}
use Rattle.dot_text.proofs.explanation_graph.put_box.Goals as goal

pub returns-in_err-open_box : goal.returns-in_err-open_box
returns-in_err-open_box g c =
    let p = picture_seen c.args.drawing.now in
    let signal = c.gate_sig-signal.result in
    let is : gate_sig c.args.drawing.now.looped.now.net c.args.gate ≡ signal =
    sym (c.gate_sig-signal.ensures.sig ∙ ap (λ (net : Parts). gate_sig net c.args.gate) c.net.ensures.net) in
    appended_equal _ _ _ _ (ap (λ (s : Sig). box s.0 (flat_map (pin_line p c.args.gate) c.args.pins.now)) is ∙ box_lines p c.args.gate signal.0 c.args.pins.now)
    (appended_cut _ _ _ _ _ c.in_err-open_box.ensures c.from_residual.ensures.0)

pub returns-in_err-put_lines : goal.returns-in_err-put_lines
returns-in_err-put_lines g c =
    let p = picture_seen c.args.drawing.now in
    let signal = c.gate_sig-signal.result in
    let is : gate_sig c.args.drawing.now.looped.now.net c.args.gate ≡ signal =
    sym (c.gate_sig-signal.ensures.sig ∙ ap (λ (net : Parts). gate_sig net c.args.gate) c.net.ensures.net) in
    appended_equal _ _ _ _ (ap (λ (s : Sig). box s.0 (flat_map (pin_line p c.args.gate) c.args.pins.now)) is ∙ box_lines p c.args.gate signal.0 c.args.pins.now)
    (appended_then _ _ _ _ _ _ _ _ _ _ c.in_ok-open_box.ensures (appended_cut _ _ _ _ _ c.in_err-put_lines.ensures c.from_residual-in_err-put_lines.ensures.0))

pub returns : goal.returns
returns g c =
    let p = picture_seen c.args.drawing.now in
    let signal = c.gate_sig-signal.result in
    let is : gate_sig c.args.drawing.now.looped.now.net c.args.gate ≡ signal =
    sym (c.gate_sig-signal.ensures.sig ∙ ap (λ (net : Parts). gate_sig net c.args.gate) c.net.ensures.net) in
    appended_equal _ _ _ _ (ap (λ (s : Sig). box s.0 (flat_map (pin_line p c.args.gate) c.args.pins.now)) is ∙ box_lines p c.args.gate signal.0 c.args.pins.now)
    (appended_then _ _ _ _ _ _ _ _ _ _ c.in_ok-open_box.ensures (appended_then _ _ _ _ _ _ _ _ _ _ c.in_ok-put_lines.ensures c.close_box.ensures))

pub put_lines-requires-clause-pins : goal.put_lines-requires-clause-pins
put_lines-requires-clause-pins g c = c.requires.pins
