use Rattle.netlist.proofs.FixpointLemmas.{one_gate_stays_below_fix, fixpoint_below_is_fix}
use Rattle.netlist.proofs.laws.gates_one_by_one_reach_it.Goals as goal

pub returns-clause-one_gate : goal.returns-clause-one_gate
returns-clause-one_gate c = one_gate_stays_below_fix

pub returns-clause-below : goal.returns-clause-below
returns-clause-below c = fixpoint_below_is_fix
