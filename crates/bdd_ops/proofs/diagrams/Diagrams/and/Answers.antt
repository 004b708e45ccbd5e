use Rattle.bdd_store.proofs.GrowthLemmas.{grows_alike}
use Rattle.bdd_ops.proofs.OperationLemmas.{conjunction_is}
use Rattle.bdd_ops.proofs.diagrams.Diagrams.and.Goals as goal

pub returns-clause-grows : goal.returns-clause-grows
returns-clause-grows c = grows_alike (conjunction_is c.args.self.now c.args.a c.args.b c.of.result (c.of.ensures.value c.args.self.now)) c.ite.ensures.grows
