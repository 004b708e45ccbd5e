use Rattle.explanations.specs.Sides.{AreAllSides}
use Rattle.explanations.proofs.sides.all_sides.Given as goal

abbrev pub invariant-loop-signal : goal.invariant-loop-signal
invariant-loop-signal l = AreAllSides l.known l.marks l.signal l.sides.items
