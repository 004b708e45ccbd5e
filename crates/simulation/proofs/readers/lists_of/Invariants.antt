use Rattle.simulation.proofs.ReaderLemmas.{AreReadersBelow}
use Rattle.simulation.proofs.readers.lists_of.Given as goal

abbrev pub invariant-loop-number : goal.invariant-loop-number
invariant-loop-number l = AreReadersBelow l.net l.number l.lists.items
