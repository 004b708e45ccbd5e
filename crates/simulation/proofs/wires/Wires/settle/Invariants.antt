use Rattle.std.proofs.Common.{◌≡◌}
use Rattle.simulation.proofs.Common.{AreKept, AreSettled, vector_of}
use Rattle.simulation.proofs.wires.Wires.settle.Given as goal

abbrev pub invariant-loop-place : goal.invariant-loop-place
invariant-loop-place l = record {
  kept : AreKept l.net l.plan.blocks l.self.values.items l.self.due.items;
  settled : AreSettled l.net l.plan.blocks l.self.values.items l.place;
  vector : vector_of l.net l.self.values.items ≡ vector_of l.net l.initial.self.values.items;
}
