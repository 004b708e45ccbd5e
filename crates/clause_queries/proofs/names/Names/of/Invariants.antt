use Rattle.std.proofs.Common.{◌≡◌, ◌<◌, ℕ, true, false, length, get_or}
use Rattle.clause_queries.specs.Names.{has, AreNames}
use Rattle.clause_queries.proofs.names.Names.of.Given as goal

abbrev pub invariant-loop-variable : goal.invariant-loop-variable
invariant-loop-variable l =
    AreNames l.names × (length l.names.numbers.items ≡ l.variables)
    × ((v : ℕ) → v < l.variable → get_or l.marks.items v false ≡ true → has l.names v ≡ true)
