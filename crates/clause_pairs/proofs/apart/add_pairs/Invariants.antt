use Rattle.std.proofs.Common.{take}
use Rattle.clause_pairs.proofs.Common.{SayPairs}
use Rattle.clause_pairs.proofs.apart.add_pairs.Given as goal

abbrev pub invariant-loop-pair : goal.invariant-loop-pair
invariant-loop-pair l = SayPairs l.fn.formula l.formula l.rails (take l.pair-index l.pairs) l.literals.items
