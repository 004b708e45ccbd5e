use Rattle.clause_queries.proofs.ClauseLemmas.{models-same}
use Rattle.clause_queries.proofs.laws.models_are_of_formula.Goals as goal

pub returns : goal.returns
returns c = models-same
