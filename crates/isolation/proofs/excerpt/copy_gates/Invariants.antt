use Rattle.isolation.proofs.Common.{origins, AreCopies}
use Rattle.isolation.proofs.excerpt.copy_gates.Given as goal

abbrev pub invariant-loop-gate : goal.invariant-loop-gate
invariant-loop-gate l = AreCopies l.net (origins l.net l.outside.keys l.gates) l.gates l.made.items l.gate-index
