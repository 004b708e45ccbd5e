use Rattle.bdd_ops.proofs.ComputedLemmas.{AreComputed-kept}
use Rattle.bdd_ops.proofs.ChoiceLemmas.{KeepsNodes-answers, AreRight-more}
use Rattle.bdd_ops.proofs.diagrams.Diagrams.remember.Goals as goal

pub invariant_of-self : goal.invariant_of-self
invariant_of-self c = (
  AreComputed-kept c.self.inside.store c.keep_answer.new.self c.self.inside.computed (KeepsNodes-answers c.self.inside.store c.keep_answer.new.self c.keep_answer.ensures.same) c.self.invariant.0,
  AreRight-more c.self.inside.store c.keep_answer.new.self c.args.choice c.args.n c.keep_answer.ensures.same c.self.invariant.1 (rw (← c.self.view_is) at c.requires) c.keep_answer.ensures.others,
)
