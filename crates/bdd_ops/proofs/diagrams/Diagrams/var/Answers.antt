use Rattle.std.proofs.Common.{Bool, List, arith}
use Rattle.bdd_store.specs.Arena.{choice}
use Rattle.bdd_store.proofs.GrowthLemmas.{NewAreParts-made, IsRefusedPart-made, choice-bit, grows_by_parts, grows_alike}
use Rattle.bdd_ops.proofs.ChoiceLemmas.{AreRight-kept}
use Rattle.bdd_ops.proofs.ComputedLemmas.{AreComputed-kept}
use Rattle.bdd_ops.proofs.diagrams.Diagrams.var.Goals as goal

pub returns-clause-grows : goal.returns-clause-grows
returns-clause-grows c =
    let made : List Bool → Bool = choice c.self.inside.store c.args.v c.of.result c.of-2.result in
    rw (← c.self.view_is)
    (grows_alike (choice-bit c.self.inside.store c.args.v c.of.result c.of-2.result (c.of.ensures.value c.self.inside.store) (c.of-2.ensures.value c.self.inside.store))
    (grows_by_parts made c.laws.ensures c.make-answer.ensures.keeps
    (NewAreParts-made c.self.inside.store c.make-answer.new.self made c.make-answer.result c.make-answer.ensures.new_node c.make-answer.ensures.function)
    (λ is_full. IsRefusedPart-made c.self.inside.store c.make-answer.new.self made (rw is_full at c.make-answer.ensures.err) (c.make-answer.ensures.full.0 is_full).1 (c.make-answer.ensures.new_function is_full))))

pub invariant_of-self : goal.invariant_of-self
invariant_of-self c = grind (arith, AreComputed-kept, AreRight-kept)
