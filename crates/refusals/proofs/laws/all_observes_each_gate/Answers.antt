use Rattle.refusals.proofs.ObservedLemmas.{all_observes_gates, all_determines_gates, all_is_more}
use Rattle.refusals.proofs.laws.all_observes_each_gate.Goals as goal

pub returns-clause-gates : goal.returns-clause-gates
returns-clause-gates c = all_observes_gates

pub returns-clause-determined : goal.returns-clause-determined
returns-clause-determined c = all_determines_gates

pub returns-clause-more : goal.returns-clause-more
returns-clause-more c = all_is_more
