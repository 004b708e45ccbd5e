use Rattle.explanations.proofs.LawLemmas.{held_stay_unknown, more_holds_open}
use Rattle.explanations.proofs.laws.held_gates_stay_unknown.Goals as goal

pub returns-clause-unknown : goal.returns-clause-unknown
returns-clause-unknown c = held_stay_unknown

pub returns-clause-more : goal.returns-clause-more
returns-clause-more c = more_holds_open
