use Rattle.std.proofs.Common.{◌≡◌, length}
use Rattle.clause_queries.specs.Each.{AreNever}
use Rattle.clause_queries.proofs.query.Query.never_each.Given as goal

abbrev pub invariant-loop-place : goal.invariant-loop-place
invariant-loop-place l = (l.self ≡ l.fn.self) × (length l.found.items ≡ length l.literals) × AreNever l.fn.self l.literals l.assumptions l.never.items
