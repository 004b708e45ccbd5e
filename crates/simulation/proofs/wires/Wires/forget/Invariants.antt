use Rattle.std.proofs.Common.{◌≡◌, ◌<◌, ℕ, true, get_or}
use Rattle.simulation.proofs.Common.{X, gate_sig, wire, AreKept, AreSettled, is_due, vector_of}
use Rattle.simulation.proofs.wires.Wires.forget.Given as goal

abbrev pub invariant-loop-gate : goal.invariant-loop-gate
invariant-loop-gate l = record {
  kept : AreKept l.net l.plan.blocks l.self.values.items l.self.due.items;
  unsettled : is_due l.self.due.items l.place ≡ true;
  settled : AreSettled l.net l.plan.blocks l.self.values.items l.place;
  vector : vector_of l.net l.self.values.items ≡ vector_of l.net l.initial.self.values.items;
  unknown : (k d : ℕ) → k < l.gate-index → wire l.self.values.items (gate_sig l.net (get_or l.gates k d)) ≡ X;
}
