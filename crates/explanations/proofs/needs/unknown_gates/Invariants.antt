use Rattle.explanations.specs.Explained.{AreAllUnknown}
use Rattle.explanations.proofs.needs.unknown_gates.Given as goal

abbrev pub invariant-loop-signal : goal.invariant-loop-signal
invariant-loop-signal l = AreAllUnknown l.net l.known l.signal l.marks.items
