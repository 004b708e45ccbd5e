use Rattle.cyc_tool.proofs.Common.{IfOk-weaker}
use Rattle.cyc_tool.proofs.DecisionLemmas.{split_was_graphed, was_graphed}
use Rattle.cyc_tool.proofs.decision.tell_graph_of.Goals as goal

pub returns-clause-rewritten : goal.returns-clause-rewritten
returns-clause-rewritten c =
    IfOk-weaker c.tell_graph.result _ _ (λ told is net care what limit valid accepts small rewriting.
    was_graphed c.args.encoding net care limit what c.args.other.now c.graph-made.result told is valid accepts small rewriting
    c.graph-made.ensures.built c.graph-made.ensures.few c.graph-made.ensures.graphing c.graph-made.ensures.too_large)
    c.tell_graph.ensures

pub returns-clause-split : goal.returns-clause-split
returns-clause-split c =
    IfOk-weaker c.tell_graph.result _ _ (λ told is net care what limit cases valid accepts form.
    split_was_graphed c.args.encoding net care limit what cases c.args.other.now c.graph-made.result told is valid accepts form
    c.graph-made.ensures.built c.graph-made.ensures.few c.graph-made.ensures.graphing c.graph-made.ensures.too_large)
    c.tell_graph.ensures
