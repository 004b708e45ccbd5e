use Rattle.std.proofs.Common.{◌≡◌, ◌≤◌}
use Rattle.cover_logic.specs.Partial.{is_tautology, unknown_count}
use Rattle.cover_logic.proofs.extend.propagate_all.Given as goal

abbrev pub invariant-loop : goal.invariant-loop
invariant-loop l =
    (is_tautology l.rows l.pins ≡ is_tautology l.rows l.fn.pins) × (unknown_count l.pins ≤ unknown_count l.fn.pins)

abbrev pub decreases-loop : goal.decreases-loop
decreases-loop l = unknown_count l.pins
