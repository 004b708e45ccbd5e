use Rattle.std.proofs.Common.{◌≡◌, ◌++◌, take}
use Rattle.clause_decision.proofs.Common.{asked_starts}
use Rattle.clause_decision.proofs.initial.ask_starts.Given as goal

abbrev pub invariant-loop-latch : goal.invariant-loop-latch
invariant-loop-latch l = l.assumed.items ≡ (l.fn.assumed.items ++ asked_starts (take l.latch l.net.latches) (take l.latch l.latches))
