use Rattle.std.proofs.Common.{◌≡◌, map, take}
use Rattle.aig_core.proofs.Common.{signal_edge}
use Rattle.aig_core.proofs.building.signal_edges.Given as goal

abbrev pub invariant-loop-signal : goal.invariant-loop-signal
invariant-loop-signal l = l.found.items ≡ map (signal_edge l.net l.edges) (take l.signal-index l.signals)
