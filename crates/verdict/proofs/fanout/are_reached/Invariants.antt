use Rattle.verdict.proofs.FanoutLemmas.{NoneReached}
use Rattle.verdict.proofs.fanout.are_reached.Given as goal

abbrev pub invariant-loop-gate : goal.invariant-loop-gate
invariant-loop-gate l = NoneReached l.net l.gates l.marks l.gate-index
