use Rattle.simulation.proofs.Common.{AreListed}
use Rattle.simulation.proofs.readers.add_gate.Given as goal

abbrev pub invariant-loop-pin : goal.invariant-loop-pin
invariant-loop-pin l = AreListed l.gate l.pins l.pin-index l.initial.lists l.lists
