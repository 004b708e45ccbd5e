use Rattle.std.proofs.Common.{true, false}
use Rattle.bdd_store.proofs.ValueLemmas.{den-constant, top_of-constant}
use Rattle.bdd_store.proofs.node.Node.of.Goals as goal

pub returns-then-b-clause-value : goal.returns-then-b-clause-value
returns-then-b-clause-value c a bits = rw c.if-b.true (den-constant true a bits)

pub returns-then-b-clause-top : goal.returns-then-b-clause-top
returns-then-b-clause-top c a = top_of-constant true a

pub returns-else-b-clause-value : goal.returns-else-b-clause-value
returns-else-b-clause-value c a bits = rw c.if-b.false (den-constant false a bits)

pub returns-else-b-clause-top : goal.returns-else-b-clause-top
returns-else-b-clause-top c a = top_of-constant false a
