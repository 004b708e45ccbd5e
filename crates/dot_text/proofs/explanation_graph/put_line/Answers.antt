use Rattle.std.proofs.Common.{◌≡◌, List, [], ℕ, ap, ap₂, sym, ◌∙◌}
use Rattle.std.proofs.lemmas.Option.{get_or_from_slice_get}
use Rattle.netlist.specs.Netlists.{signal_names, signal_name}
use Rattle.explanations.specs.declared.pins.Pin.{Pin}
use Rattle.dot_text.specs.Dot.{quoted}
use Rattle.dot_text.specs.ExplanationGraphs.{value_line}
use Rattle.dot_text.proofs.Common.{Parts, appended_equal}
use Rattle.dot_text.proofs.explanation_graph.put_line.Goals as goal

pub returns : goal.returns
returns g c =
    let name : signal_name c.args.drawing.now.looped.now.net c.args.pin ≡ c.name_of.result.now =
    ap (λ (net : Parts). signal_name net c.args.pin) (sym c.net.ensures.net)
    ∙ get_or_from_slice_get (signal_names c.net.result.now) c.args.pin.0 c.name_of.result.now [] c.name_of.ensures.name in
    appended_equal _ _ _ _ (ap₂ (λ (name : List ℕ) (value : Pin). quoted (value_line name value)) name (sym c.value_on_pin.ensures)) c.put_value.ensures
