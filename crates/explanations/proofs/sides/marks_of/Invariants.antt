use Rattle.explanations.specs.Sides.{AreMarksOf}
use Rattle.explanations.proofs.sides.marks_of.Given as goal

abbrev pub invariant-loop-gate : goal.invariant-loop-gate
invariant-loop-gate l = AreMarksOf l.net l.gates l.gate-index l.marks.items
