use Rattle.clause_pairs.proofs.Common.{AddLiterals}
use Rattle.clause_pairs.proofs.apart.add_hints.Given as goal

abbrev pub invariant-loop-hint : goal.invariant-loop-hint
invariant-loop-hint l = AddLiterals l.fn.formula l.formula l.literals.items
