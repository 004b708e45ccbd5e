use Rattle.bdd_store.proofs.GrowthLemmas.{grows_by_parts}
use Rattle.bdd_ops.specs.Apply.{value}
use Rattle.bdd_ops.proofs.ChoiceLemmas.{AreRight-kept}
use Rattle.bdd_ops.proofs.diagrams.Diagrams.operate.Goals as goal

pub returns-clause-grows : goal.returns-clause-grows
returns-clause-grows c = rw (← c.self.view_is) (grows_by_parts (value c.args.operation c.self.inside.store c.args.operands) c.laws.ensures c.apply-answer.ensures.keeps c.apply-answer.ensures.parts c.apply-answer.ensures.full)

pub invariant_of-self : goal.invariant_of-self
invariant_of-self c = (c.apply-answer.ensures.computed, AreRight-kept c.self.inside.store c.apply-answer.new.store c.apply-answer.ensures.keeps c.apply-answer.ensures.answers c.self.invariant.1)
