use Rattle.storm.proofs.PlanLemmas.{unknown_gates_have_plans}
use Rattle.storm.proofs.laws.unknown_gates_have_plans.Goals as goal

pub returns : goal.returns
returns c = unknown_gates_have_plans
