use Rattle.std.proofs.Common.{◌<◌, [], Some, length, arith}
use Rattle.aig_core.proofs.Common.{All-nil, NodeTask, node_of}
use Rattle.std.proofs.lemmas.List.Elements.{All-pop}
use Rattle.aig_core.proofs.DepthLemmas.{finished_visits, visits_within}
use Rattle.aig_core.proofs.depth.place_needed.Goals as goal

pub loop-task-init : goal.loop-task-init
loop-task-init c =
    let graph = c.args.graph.now in
    let needed = c.args.needed.now in
    grind (arith, finished_visits graph [] [] needed, visits_within (length graph) [] needed, All-nil)

pub step-requires-clause-task : goal.step-requires-clause-task
step-requires-clause-task c =
    (All-pop (λ (t : NodeTask). node_of t < length c.args.graph.now) c.loop-task.tasks.items c.pop.new.self.items (Some c.in-Some.task) c.in-Some.ensures.items c.loop-task.invariant.within).1
