use Rattle.std.proofs.Common.{◌++◌, ap, ◌∙◌}
use Rattle.explain_text.specs.Graphs.{told_graph}
use Rattle.cyc_tool.proofs.Common.{sweeps_needed}
use Rattle.plain_commands.specs.Texts.{on_out}
use Rattle.cyc_tool.proofs.explained.draw_labelled.Goals as goal

pub returns : goal.returns
returns c = λ care on_care.
    c.on_out.ensures
    ∙ ap (λ text. on_out 0 text)
    (c.into_vec.ensures
    ∙ c.in_ok-tell_loops_graph.ensures.on_care care on_care
    ∙ ap (λ text. text ++ told_graph c.args.counted.now.net c.args.label.now (sweeps_needed c.args.counted.now.net care)) c.new-sink.ensures.empty)
