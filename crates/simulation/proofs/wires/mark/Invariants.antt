use Rattle.simulation.specs.Marking.{AreMarked}
use Rattle.simulation.proofs.wires.mark.Given as goal

abbrev pub invariant-loop-gate : goal.invariant-loop-gate
invariant-loop-gate l = AreMarked l.gates l.home l.gate-index l.initial.due l.due
