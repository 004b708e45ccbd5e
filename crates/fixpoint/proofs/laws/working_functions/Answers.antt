use Rattle.fixpoint.proofs.WorkLemmas.{fix_is_working, sweeps_are_working, gate_parts_agree}
use Rattle.fixpoint.proofs.laws.working_functions.Goals as goal

pub returns-clause-fix : goal.returns-clause-fix
returns-clause-fix c = fix_is_working

pub returns-clause-swept : goal.returns-clause-swept
returns-clause-swept c = sweeps_are_working

pub returns-clause-agree : goal.returns-clause-agree
returns-clause-agree c = gate_parts_agree
