use Rattle.std.proofs.Common.{◌≡◌, ◌<◌, ◌/◌, ℕ, true, length, get_or}
use Rattle.clause_queries.specs.Names.{has, AreMoreNames}
use Rattle.clause_queries.proofs.names.Names.add_all.Given as goal

abbrev pub invariant-loop-place : goal.invariant-loop-place
invariant-loop-place l =
    AreMoreNames l.fn.self l.self
    × ((k d : ℕ) → k < l.place → get_or l.literals k d / 2 < length l.self.numbers.items → has l.self (get_or l.literals k d / 2) ≡ true)
