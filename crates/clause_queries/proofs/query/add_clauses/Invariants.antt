use Rattle.std.proofs.Common.{◌≡◌, length}
use Rattle.clause_queries.proofs.ClauseLemmas.{AreLoading}
use Rattle.clause_queries.proofs.query.add_clauses.Given as goal

abbrev pub invariant-loop-size : goal.invariant-loop-size
invariant-loop-size l = AreLoading l.variables l.names l.literals l.added l.rest l.solver.formula × (l.solver.variables ≡ length l.names.names.items)

abbrev pub decreases-loop-size : goal.decreases-loop-size
decreases-loop-size l = length l.rest
