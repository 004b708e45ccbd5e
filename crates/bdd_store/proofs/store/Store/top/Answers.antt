use Rattle.std.proofs.Common.{arith}
use Rattle.bdd_store.proofs.ValueLemmas.{not_branching, top_of-low}
use Rattle.bdd_store.proofs.BranchLemmas.{entry-top, entry-within}
use Rattle.bdd_store.proofs.store.Store.top.Goals as goal

pub returns-then-is_branching-clause-variable : goal.returns-then-is_branching-clause-variable
returns-then-is_branching-clause-variable c = grind (arith, entry-top)

pub returns-then-is_branching-clause-branching : goal.returns-then-is_branching-clause-branching
returns-then-is_branching-clause-branching c = grind (arith, entry-within)

pub returns-else-is_branching-clause-variable : goal.returns-else-is_branching-clause-variable
returns-else-is_branching-clause-variable c = grind (arith, top_of-low, not_branching)
