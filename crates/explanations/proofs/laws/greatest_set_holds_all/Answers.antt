use Rattle.explanations.proofs.LawLemmas.{union_is_held_open, greatest_holds_open, vector_holds_unknown}
use Rattle.explanations.proofs.laws.greatest_set_holds_all.Goals as goal

pub returns-clause-union : goal.returns-clause-union
returns-clause-union c = union_is_held_open

pub returns-clause-greatest : goal.returns-clause-greatest
returns-clause-greatest c = greatest_holds_open

pub returns-clause-vector : goal.returns-clause-vector
returns-clause-vector c = vector_holds_unknown
