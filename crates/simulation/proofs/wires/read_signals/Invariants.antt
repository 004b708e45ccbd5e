use Rattle.std.proofs.Common.{◌≡◌, take, map}
use Rattle.simulation.proofs.Common.{wire}
use Rattle.simulation.proofs.wires.read_signals.Given as goal

abbrev pub invariant-loop-signal : goal.invariant-loop-signal
invariant-loop-signal l = l.list.items ≡ map (wire l.values) (take l.signal-index l.signals)
