use Rattle.std.proofs.Common.{rules}
use Rattle.bdd_ops.proofs.RootLemmas.{AreRight-none}
use Rattle.bdd_ops.proofs.diagrams.Diagrams.sweep.Goals as goal

pub invariant_of-self-2 : goal.invariant_of-self-2
invariant_of-self-2 c = (search rules, AreRight-none c.sweep.new.self c.in_ok-sweep.ensures.answers)
