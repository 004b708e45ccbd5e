use Rattle.std.proofs.Common.{◌≡◌}
use Rattle.std.specs.List.{flat_map, range_with_len}
use Rattle.probes.specs.Texts.{gate_line}
use Rattle.probes.proofs.glitches.show_glitches.Given as goal

abbrev pub invariant-loop-gate : goal.invariant-loop-gate
invariant-loop-gate l = l.text.items ≡ flat_map (gate_line l.changes l.net) (range_with_len 0 l.gate)
