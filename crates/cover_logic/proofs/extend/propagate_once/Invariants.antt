use Rattle.std.proofs.Common.{◌≡◌, ◌+◌, ◌≤◌, if◌then◌else◌}
use Rattle.cover_logic.specs.Partial.{is_tautology, unknown_count}
use Rattle.cover_logic.proofs.extend.propagate_once.Given as goal

abbrev pub invariant-loop-row : goal.invariant-loop-row
invariant-loop-row l =
    (is_tautology l.rows l.pins ≡ is_tautology l.rows l.fn.pins)
    × (unknown_count l.pins + (if l.changed then 1 else 0) ≤ unknown_count l.fn.pins)

abbrev pub invariant-loop-row-2 : goal.invariant-loop-row-2
invariant-loop-row-2 l =
    (is_tautology l.rows l.pins ≡ is_tautology l.rows l.fn.pins)
    × (unknown_count l.pins + (if l.changed then 1 else 0) ≤ unknown_count l.fn.pins)
