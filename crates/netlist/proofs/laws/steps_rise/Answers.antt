use Rattle.netlist.proofs.FixpointLemmas.{step_is_monotone, steps_rise}
use Rattle.netlist.proofs.laws.steps_rise.Goals as goal

pub returns-clause-monotone : goal.returns-clause-monotone
returns-clause-monotone c = step_is_monotone

pub returns-clause-rising : goal.returns-clause-rising
returns-clause-rising c = steps_rise
