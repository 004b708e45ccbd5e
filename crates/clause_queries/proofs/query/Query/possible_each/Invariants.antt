use Rattle.std.proofs.Common.{◌≡◌}
use Rattle.clause_queries.specs.Each.{AreToldBelow}
use Rattle.clause_queries.proofs.query.Query.possible_each.Given as goal

abbrev pub invariant-loop-place : goal.invariant-loop-place
invariant-loop-place l = (l.self ≡ l.fn.self) × AreToldBelow l.fn.self l.literals l.assumptions l.place l.found.items
