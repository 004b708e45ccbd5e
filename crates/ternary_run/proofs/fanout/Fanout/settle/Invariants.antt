use Rattle.std.proofs.Common.{length}
use Rattle.ternary_run.proofs.SettlingLemmas.{IsSettling, work_left}
use Rattle.ternary_run.proofs.fanout.Fanout.settle.Given as goal

abbrev pub invariant-loop-gate : goal.invariant-loop-gate
invariant-loop-gate l = IsSettling l.net l.given l.values.items l.queue.items

abbrev pub decreases-loop-gate : goal.decreases-loop-gate
decreases-loop-gate l = work_left (length l.self) l.values.items l.queue.items
