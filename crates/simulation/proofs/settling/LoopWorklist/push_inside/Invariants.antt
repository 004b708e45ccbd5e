use Rattle.std.proofs.Common.{◌≡◌, ◌++◌, ◌==◌, take, filter, get_or}
use Rattle.simulation.proofs.settling.LoopWorklist.push_inside.Given as goal

abbrev pub invariant-loop-gate : goal.invariant-loop-gate
invariant-loop-gate l = record {
  place : l.self.place ≡ l.initial.self.place;
  gates : l.self.gates.items ≡ l.initial.self.gates.items ++ filter (λ gate. get_or l.home gate 0 == l.initial.self.place) (take l.gate-index l.gates);
}
