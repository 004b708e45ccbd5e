use Rattle.flatten.proofs.Climbing.{resolved_is_climbed}
use Rattle.flatten.proofs.laws.tables_give_wires.Goals as goal

pub returns : goal.returns
returns c = resolved_is_climbed
