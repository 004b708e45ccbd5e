use Rattle.std.proofs.Common.{sym, subst}
use Rattle.bdd_ops.specs.Choices.{AreRight}
use Rattle.bdd_ops.proofs.ChoiceLemmas.{AreRight-empty}
use Rattle.bdd_ops.proofs.diagrams.Diagrams.new.Goals as goal

pub invariant_of-result : goal.invariant_of-result
invariant_of-result c = (c.in_ok-computed.ensures c.in_ok-store.store, subst AreRight (sym c.in_ok-store.ensures) (AreRight-empty c.args.vars c.args.limit))
