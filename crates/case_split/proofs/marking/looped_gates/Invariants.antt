use Rattle.std.proofs.Common.{◌<◌, All, length}
use Rattle.case_split.proofs.marking.looped_gates.Given as goal

abbrev pub invariant-loop-gate : goal.invariant-loop-gate
invariant-loop-gate l = All (λ n. n < length l.looped.net.gates) l.gates.items
