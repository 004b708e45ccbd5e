use Rattle.cyc_tool.proofs.Common.{IfOk-weaker}
use Rattle.cyc_tool.proofs.DecisionLemmas.{split_outgrown}
use Rattle.cyc_tool.proofs.split.tell_split_graph.Goals as goal

pub tell_graph_of-requires-clause-loop_free : goal.tell_graph_of-requires-clause-loop_free
tell_graph_of-requires-clause-loop_free c = rw c.in-Ok.is at c.make_loop_free_by-rewriting.ensures.loop_free

pub tell_graph_of-requires-clause-columns : goal.tell_graph_of-requires-clause-columns
tell_graph_of-requires-clause-columns c = rw c.in-Ok.is at c.make_loop_free_by-rewriting.ensures.columns

pub returns-in-Ok : goal.returns-in-Ok
returns-in-Ok c =
    let p = c.args.accepted.now.problem in
    let was = c.make_loop_free_by-rewriting.ensures.was in
    IfOk-weaker c.tell_graph_of.result _ _ (λ told is.
    is p.looped.net p.care p.observe p.limit c.args.cases.number was.can.valid was.is.accepts
    (rw c.in-Ok.is at c.make_loop_free_by-rewriting.ensures.form))
    c.tell_graph_of.ensures.split

pub returns : goal.returns
returns c =
    let p = c.args.accepted.now.problem in
    IfOk-weaker c.tell_outgrown.result _ _ (λ told is.
    split_outgrown c.args.encoding p.looped.net p.care p.limit p.observe c.args.cases.number c.in-Err.fault told is
    (rw c.in-Err.is at c.make_loop_free_by-rewriting.ensures.fault))
    c.tell_outgrown.ensures
