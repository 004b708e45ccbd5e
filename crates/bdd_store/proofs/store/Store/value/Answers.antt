use Rattle.std.proofs.Common.{arith}
use Rattle.bdd_store.proofs.ValueLemmas.{node_value-low, not_branching}
use Rattle.bdd_store.proofs.store.Store.value.Goals as goal

pub returns : goal.returns
returns c = grind (arith, node_value-low, not_branching)
