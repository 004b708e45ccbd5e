use Rattle.std.proofs.Common.{◌≡◌, length}
use Rattle.aig_core.proofs.Common.{postorder, AreWithin, finished, HasMarks}
use Rattle.aig_core.specs.Tasks.{tasks_left}
use Rattle.aig_core.proofs.depth.place_needed.Given as goal

abbrev pub invariant-loop-task : goal.invariant-loop-task
invariant-loop-task l = record {
  end : finished l.graph l.placed.nodes.items l.tasks.items ≡ postorder l.graph l.needed;
  within : AreWithin (length l.graph) l.tasks.items;
  marks : HasMarks l.placed.nodes.items l.placed.marks.items;
  width : length l.placed.marks.items ≡ length l.graph;
}

abbrev pub decreases-loop-task : goal.decreases-loop-task
decreases-loop-task l = tasks_left l.graph l.tasks.items
