use Rattle.care_sets.proofs.FaultLemmas.{bound_models_have_no_fault, first_fault_is_one}
use Rattle.care_sets.proofs.laws.faults_are_exact.Goals as goal

pub returns-clause-bound : goal.returns-clause-bound
returns-clause-bound c = bound_models_have_no_fault

pub returns-clause-one : goal.returns-clause-one
returns-clause-one c = first_fault_is_one
