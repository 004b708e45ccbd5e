use Rattle.assumptions.proofs.LawLemmas.{weakest_is_exact, excluded_are_open}
use Rattle.assumptions.proofs.laws.weakest_is_exact.Goals as goal

pub returns-clause-exact : goal.returns-clause-exact
returns-clause-exact c = weakest_is_exact

pub returns-clause-keeps : goal.returns-clause-keeps
returns-clause-keeps c = excluded_are_open
