use Rattle.std.proofs.Common.{◌≡◌, ◌++◌, false, drop, replicate}
use Rattle.bdd_ops.proofs.least.clear.Given as goal

abbrev pub invariant-loop-bit : goal.invariant-loop-bit
invariant-loop-bit l = l.out ≡ replicate l.bit-index false ++ drop l.bit-index l.initial.out
