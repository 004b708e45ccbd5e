use Rattle.bdd_store.proofs.SubfunctionLemmas.{nodes-alike}
use Rattle.bdd_store.proofs.laws.nodes_by_values.Goals as goal

pub returns : goal.returns
returns c vars f g same = nodes-alike vars f g same
