use Rattle.std.proofs.Common.{◌≡◌, List, ℕ, [], take}
use Rattle.clause_queries.specs.Clauses.{IsWithin}
use Rattle.clause_queries.specs.Descent.{IsFixed}
use Rattle.clause_queries.proofs.query.Query.fix_columns.Given as goal

abbrev pub invariant-loop-place : goal.invariant-loop-place
invariant-loop-place l =
    (l.self ≡ l.fn.self) × IsWithin l.fn.self.variables l.fixed.items
    × ((assumptions : List ℕ) → IsFixed l.fn.self assumptions [] l.fn.fixed.items l.fn.model.items →
    IsFixed l.fn.self assumptions (take l.place l.columns) l.fixed.items l.model.items)
