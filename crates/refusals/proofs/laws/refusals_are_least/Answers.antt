use Rattle.refusals.proofs.LawLemmas.{initial_is_least, undetermined_is_least, earlier_gates_are_determined, leaves_is_least}
use Rattle.refusals.proofs.laws.refusals_are_least.Goals as goal

pub returns-clause-initial : goal.returns-clause-initial
returns-clause-initial c = initial_is_least

pub returns-clause-undetermined : goal.returns-clause-undetermined
returns-clause-undetermined c = undetermined_is_least

pub returns-clause-first : goal.returns-clause-first
returns-clause-first c = earlier_gates_are_determined

pub returns-clause-leaves : goal.returns-clause-leaves
returns-clause-leaves c = leaves_is_least
