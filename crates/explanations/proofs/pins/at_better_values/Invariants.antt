use Rattle.explanations.specs.Pins.{AreAsGood}
use Rattle.explanations.proofs.pins.at_better_values.Given as goal

abbrev pub invariant-loop-pin : goal.invariant-loop-pin
invariant-loop-pin l = AreAsGood l.cover l.wanted l.pins l.chosen.items
