use Rattle.std.proofs.Common.{◌≡◌, ◌++◌, take, map}
use Rattle.ternary_run.proofs.fanout.queue_gates.Given as goal

abbrev pub invariant-loop-read : goal.invariant-loop-read
invariant-loop-read l = l.queue.items ≡ l.initial.queue.items ++ map (λ read. read.gate) (take l.read-index l.reads)
