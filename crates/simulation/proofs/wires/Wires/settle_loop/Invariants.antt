use Rattle.std.proofs.Common.{◌≡◌}
use Rattle.simulation.proofs.Common.{vector_of, IsRising, work_left}
use Rattle.simulation.proofs.wires.Wires.settle_loop.Given as goal

abbrev pub invariant-loop-gate : goal.invariant-loop-gate
invariant-loop-gate l = record {
  place : l.worklist.place ≡ l.place;
  rising : IsRising l.net l.plan l.place l.self.values.items l.self.due.items l.worklist.gates.items;
  vector : vector_of l.net l.self.values.items ≡ vector_of l.net l.fn.self.values.items;
}

abbrev pub decreases-loop-gate : goal.decreases-loop-gate
decreases-loop-gate l = work_left l.plan l.self.values.items l.worklist.gates.items
