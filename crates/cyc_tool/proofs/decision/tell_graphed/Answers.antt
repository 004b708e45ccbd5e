use Rattle.cyc_tool.proofs.Common.{IfOk-weaker}
use Rattle.cyc_tool.proofs.DecisionLemmas.{outgrown_graph}
use Rattle.cyc_tool.proofs.decision.tell_graphed.Goals as goal

pub tell_graph_of-requires-clause-loop_free : goal.tell_graph_of-requires-clause-loop_free
tell_graph_of-requires-clause-loop_free c = rw c.in-Ok.is at c.make_loop_free-rewriting.ensures.loop_free

pub tell_graph_of-requires-clause-columns : goal.tell_graph_of-requires-clause-columns
tell_graph_of-requires-clause-columns c = rw c.in-Ok.is at c.make_loop_free-rewriting.ensures.columns

pub returns-in-Ok : goal.returns-in-Ok
returns-in-Ok c =
    let p = c.args.accepted.now.problem in
    let made = rw c.in-Ok.is at c.make_loop_free-rewriting.ensures in
    IfOk-weaker c.tell_graph_of.result _ _ (λ told is.
    is p.looped.net p.care p.observe p.limit made.was.can.valid made.was.is.accepts made.small made.rewriting)
    c.tell_graph_of.ensures.rewritten

pub returns : goal.returns
returns c =
    let p = c.args.accepted.now.problem in
    IfOk-weaker c.tell_outgrown.result _ _ (λ told is.
    outgrown_graph c.args.encoding p.looped.net p.care p.limit p.observe c.in-Err.fault told is
    (rw c.in-Err.is at c.make_loop_free-rewriting.ensures.fault))
    c.tell_outgrown.ensures
