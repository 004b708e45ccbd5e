use Rattle.std.proofs.Common.{None}
use Rattle.bdd_ops.proofs.RootLemmas.{AreKnown-root}
use Rattle.bdd_ops.proofs.diagrams.Diagrams.release.Goals as goal

pub invariant_of-self : goal.invariant_of-self
invariant_of-self c = AreKnown-root c.self.inside.store c.release.new.self c.self.inside.computed c.args.r.key None c.release.ensures c.self.invariant
