use Rattle.assumptions.specs.Making.{AreKnownPins}
use Rattle.assumptions.proofs.rows.row_of.Given as goal

abbrev pub invariant-loop-signal : goal.invariant-loop-signal
invariant-loop-signal l = AreKnownPins l.pins l.signal l.values.items
