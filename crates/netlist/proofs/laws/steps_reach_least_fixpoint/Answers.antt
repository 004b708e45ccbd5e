use Rattle.netlist.proofs.FixpointLemmas.{fix_is_fixpoint, fix_is_least, fix_is_below_closed, fix_is_reached, fix_is_monotone}
use Rattle.netlist.proofs.laws.steps_reach_least_fixpoint.Goals as goal

pub returns-clause-fixpoint : goal.returns-clause-fixpoint
returns-clause-fixpoint c = fix_is_fixpoint

pub returns-clause-least : goal.returns-clause-least
returns-clause-least c = fix_is_least

pub returns-clause-closed : goal.returns-clause-closed
returns-clause-closed c = fix_is_below_closed

pub returns-clause-reached : goal.returns-clause-reached
returns-clause-reached c = fix_is_reached

pub returns-clause-monotone : goal.returns-clause-monotone
returns-clause-monotone c = fix_is_monotone
