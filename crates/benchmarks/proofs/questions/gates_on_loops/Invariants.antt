use Rattle.std.proofs.Common.{◌<◌, length}
use Rattle.std.specs.List.{All}
use Rattle.benchmarks.proofs.questions.gates_on_loops.Given as goal

abbrev pub invariant-loop-gate : goal.invariant-loop-gate
invariant-loop-gate l = All (λ n. n < length l.looped.net.gates) l.open.items
