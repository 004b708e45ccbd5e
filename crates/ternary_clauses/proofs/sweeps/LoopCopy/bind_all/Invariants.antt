use Rattle.ternary_clauses.proofs.Common.{AreCopied}
use Rattle.ternary_clauses.proofs.sweeps.LoopCopy.bind_all.Given as goal

abbrev pub invariant-loop-place : goal.invariant-loop-place
invariant-loop-place l = AreCopied l.self l.fn.formula l.formula l.place
