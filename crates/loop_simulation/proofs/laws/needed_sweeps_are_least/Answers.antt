use Rattle.loop_simulation.proofs.NeededLemmas.{needed_is_least}
use Rattle.loop_simulation.proofs.laws.needed_sweeps_are_least.Goals as goal

pub returns : goal.returns
returns c = needed_is_least
