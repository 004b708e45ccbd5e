use Rattle.ternary_clauses.proofs.Common.{AreCopies}
use Rattle.ternary_clauses.proofs.sweeps.add_copies.Given as goal

abbrev pub invariant-loop : goal.invariant-loop
invariant-loop l = AreCopies l.fn.formula l.formula l.copies.items l.counter
