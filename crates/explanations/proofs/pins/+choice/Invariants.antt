use Rattle.std.proofs.Common.{◌+◌, ◌*◌}
use Rattle.explanations.specs.Pins.{free_count}
use Rattle.explanations.proofs.pins.+choice.Given as goal

abbrev pub decreases-can_be : goal.decreases-can_be
decreases-can_be l = 2 * free_count l.pins.now + 1

abbrev pub decreases-can_be_with : goal.decreases-can_be_with
decreases-can_be_with l = 2 * free_count l.pins.now
