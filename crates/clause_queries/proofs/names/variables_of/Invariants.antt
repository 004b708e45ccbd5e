use Rattle.std.proofs.Common.{◌≡◌, ◌<◌, ◌/◌, ℕ, true, false, length, get_or}
use Rattle.clause_queries.proofs.names.variables_of.Given as goal

abbrev pub invariant-loop-place : goal.invariant-loop-place
invariant-loop-place l =
    (length l.marks.items ≡ l.variables)
    × ((k d : ℕ) → k < l.place → get_or l.literals k d / 2 < l.variables → get_or l.marks.items (get_or l.literals k d / 2) false ≡ true)
