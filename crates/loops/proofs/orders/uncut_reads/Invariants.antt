use Rattle.loops.proofs.Common.{AreUncutReads}
use Rattle.loops.proofs.orders.uncut_reads.Given as goal

abbrev pub invariant-loop-gate : goal.invariant-loop-gate
invariant-loop-gate l = AreUncutReads l.looped.net l.looped.blocks l.looped.cut l.gates l.gate-index l.graph
