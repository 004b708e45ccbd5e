use Rattle.std.proofs.Common.{◌≡◌, ◌≤◌, ◌+◌, ◌++◌, length, map}
use Rattle.std.specs.Prelude.{vec_capacity, vec_len}
use Rattle.flatten.proofs.Common.{flat_map, gate_with, sig_or}
use Rattle.flatten.proofs.Reading.{IsLeft}
use Rattle.flatten.proofs.link.flat_gates.Given as goal

abbrev pub invariant-loop-gate : goal.invariant-loop-gate
invariant-loop-gate l = record {
  flat : l.flat.items ++ map (gate_with (sig_or l.drivers)) l.gate-iterator ≡ map (gate_with (sig_or l.drivers)) l.fn.gates.items;
  left : IsLeft l.drivers (flat_map (λ x. x.pins) l.fn.gates.items) (flat_map (λ x. x.pins) l.gate-iterator) l.fn.clock l.clock;
  room : vec_len l.flat + length l.gate-iterator ≤ vec_capacity l.flat;
}
