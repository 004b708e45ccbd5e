use Rattle.bdd_ops.proofs.RootLemmas.{AreKnown-kept}
use Rattle.bdd_ops.proofs.diagrams.Diagrams.keep.Goals as goal

pub invariant_of-self : goal.invariant_of-self
invariant_of-self c = AreKnown-kept c.self.inside.store c.keep.new.self c.self.inside.computed c.args.n c.keep.result c.keep.ensures.kept c.keep.ensures.err c.self.invariant
