use Rattle.bdd_store.proofs.GrowthLemmas.{grows_alike}
use Rattle.bdd_ops.proofs.OperationLemmas.{disjunction_is}
use Rattle.bdd_ops.proofs.diagrams.Diagrams.or.Goals as goal

pub returns-clause-grows : goal.returns-clause-grows
returns-clause-grows c = grows_alike (disjunction_is c.args.self.now c.args.a c.args.b c.of.result (c.of.ensures.value c.args.self.now)) c.ite.ensures.grows
