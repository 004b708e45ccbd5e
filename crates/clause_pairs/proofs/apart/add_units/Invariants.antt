use Rattle.std.proofs.Common.{take}
use Rattle.clause_pairs.specs.Pairs.{HoldsEach}
use Rattle.clause_pairs.proofs.apart.add_units.Given as goal

abbrev pub invariant-loop-literal : goal.invariant-loop-literal
invariant-loop-literal l = HoldsEach l.fn.formula l.formula (take l.literal-index l.literals)
