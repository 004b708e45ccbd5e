use Rattle.std.proofs.Common.{◌≡◌, ◌≤◌, length}
use Rattle.clause_queries.specs.Queries.{IsModelUnder}
use Rattle.clause_queries.proofs.query.Query.lower_several.Given as goal

abbrev pub invariant-loop-count : goal.invariant-loop-count
invariant-loop-count l =
    (l.self ≡ l.fn.self) × (l.count ≤ length l.columns)
    × (IsModelUnder l.fn.self l.fixed l.fn.model.items → IsModelUnder l.fn.self l.fixed l.model.items)

abbrev pub decreases-loop-count : goal.decreases-loop-count
decreases-loop-count l = l.count
