use Rattle.std.proofs.Common.{◌≡◌, ◌++◌, take, drop, map}
use Rattle.flatten.proofs.Common.{twice_after}
use Rattle.flatten.proofs.link.add_gates.Given as goal

abbrev pub invariant-loop-gate : goal.invariant-loop-gate
invariant-loop-gate l = record {
  keys : l.set.keys ≡ l.initial.set.keys ++ map (λ x. x.output) (take l.gate-index l.gates);
  rest : twice_after l.set.keys (map (λ x. x.output) (drop l.gate-index l.gates)) ≡ twice_after l.initial.set.keys (map (λ x. x.output) l.gates);
}
