use Rattle.fixpoint.proofs.SolutionLemmas.{solutions-count, solutions-stay}
use Rattle.fixpoint.proofs.laws.solutions.Goals as goal

pub returns-clause-count : goal.returns-clause-count
returns-clause-count c = solutions-count

pub returns-clause-stay : goal.returns-clause-stay
returns-clause-stay c = solutions-stay
