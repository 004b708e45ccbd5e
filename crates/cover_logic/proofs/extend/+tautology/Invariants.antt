use Rattle.std.proofs.Common.{◌+◌, ◌*◌}
use Rattle.cover_logic.specs.Partial.{unknown_count}
use Rattle.cover_logic.proofs.extend.+tautology.Given as goal

abbrev pub decreases-rows_are_tautology : goal.decreases-rows_are_tautology
decreases-rows_are_tautology l = 3 * unknown_count l.pins.now + 1

abbrev pub decreases-open_are_tautology : goal.decreases-open_are_tautology
decreases-open_are_tautology l = 3 * unknown_count l.pins.items + 2

abbrev pub decreases-cofactor_is_tautology : goal.decreases-cofactor_is_tautology
decreases-cofactor_is_tautology l = 3 * unknown_count l.pins.now
