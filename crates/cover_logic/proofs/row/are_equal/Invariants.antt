use Rattle.std.proofs.Common.{◌≡◌, ◌↔◌, length}
use Rattle.cover_logic.proofs.row.are_equal.Given as goal

abbrev pub invariant-loop-row : goal.invariant-loop-row
invariant-loop-row l =
    (length l.row-iterator.a.rest.now ≡ length l.row-iterator.b.rest.now)
    × ((l.row-iterator.a.rest.now ≡ l.row-iterator.b.rest.now) ↔ (l.rows ≡ l.others))
