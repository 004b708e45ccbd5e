use Rattle.std.proofs.Common.{ap, ◌∙◌}
use Rattle.cyc_tool.proofs.Common.{IfOk-weaker, sweeps_needed, Prints}
use Rattle.explain_text.specs.Graphs.{told_graph}
use Rattle.plain_commands.specs.Texts.{told as done}
use Rattle.cyc_tool.proofs.explained.draw_loops.Goals as goal

pub returns : goal.returns
returns c =
    IfOk-weaker c.draw_labelled.result _ _ (λ told is care on_care.
    is care on_care ∙ ap (λ label. done (Prints (told_graph c.args.counted.now.net label (sweeps_needed c.args.counted.now.net care)))) (c.deref.ensures.value ∙ (rw c.looped.ensures.looped at c.in_ok-label.ensures)))
    c.draw_labelled.ensures
