use Rattle.std.proofs.Common.{◌≡◌, ◌≤◌}
use Rattle.cover_logic.specs.Partial.{is_tautology, unknown_count}
use Rattle.cover_logic.proofs.extend.give_harder_values.Given as goal

abbrev pub invariant-loop-pin : goal.invariant-loop-pin
invariant-loop-pin l =
    (is_tautology l.rows l.pins ≡ is_tautology l.rows l.fn.pins) × (unknown_count l.pins ≤ unknown_count l.fn.pins)
