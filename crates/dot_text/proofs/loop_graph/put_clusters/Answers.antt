use Rattle.std.proofs.Common.{ap, ◌∙◌, arith}
use Rattle.dot_text.proofs.Common.{appended_none, loops_of}
use Rattle.loops.proofs.ListLemmas.{comes_at}
use Rattle.loops.specs.Left.{loops_left}
use Rattle.dot_text.specs.LoopGraphs.{loop_graph}
use Rattle.report.proofs.LoopTextLemmas.{told_all, told_cut, told_more}
use Rattle.dot_text.proofs.loop_graph.put_clusters.Goals as goal

pub loop-listed-init : goal.loop-listed-init
loop-listed-init g c = (tt, appended_none _ _ _)

pub put_cluster-requires : goal.put_cluster-requires
put_cluster-requires g c = grind (arith, comes_at c.args.looped.now.net c.into_iter-listed-iterator.result c.loop-listed.listed-iterator c.next.new.self c.loop-listed.yielded c.in-Some.listed)

pub loop-listed-preserved : goal.loop-listed-preserved
loop-listed-preserved g c = (
  tt,
  told_more (loop_graph c.args.looped.now.net (loops_of c.args.looped.now.net)) c.args.looped.now.net c.into_iter-listed-iterator.result c.loop-listed.listed-iterator c.next.new.self c.loop-listed.yielded
      (ap loops_left c.into_iter-listed-iterator.ensures.into_iter_gives ∙ c.in_order-listed-items.ensures) c.loop-listed.yielded_by
      c.in-Some.listed _ _ _ _ _ _ _ _ c.in-Some.ensures.steps c.loop-listed.invariant.1 c.in_ok-put_cluster.ensures,
)

pub returns-in_err-put_cluster : goal.returns-in_err-put_cluster
returns-in_err-put_cluster g c =
    told_cut (loop_graph c.args.looped.now.net (loops_of c.args.looped.now.net)) c.args.looped.now.net c.into_iter-listed-iterator.result c.loop-listed.listed-iterator c.next.new.self c.loop-listed.yielded
    (ap loops_left c.into_iter-listed-iterator.ensures.into_iter_gives ∙ c.in_order-listed-items.ensures) c.loop-listed.yielded_by
    c.in-Some.listed _ _ _ _ _ _ _ _ _ c.in-Some.ensures.steps c.loop-listed.invariant.1 c.in_err-put_cluster.ensures c.from_residual.ensures.0

pub returns : goal.returns
returns g c =
    told_all (loop_graph c.args.looped.now.net (loops_of c.args.looped.now.net)) c.args.looped.now.net c.into_iter-listed-iterator.result c.loop-listed.listed-iterator c.next.new.self c.loop-listed.yielded
    (ap loops_left c.into_iter-listed-iterator.ensures.into_iter_gives ∙ c.in_order-listed-items.ensures) c.loop-listed.yielded_by _ _ c.in-None.ensures.steps.0 c.loop-listed.invariant.1
