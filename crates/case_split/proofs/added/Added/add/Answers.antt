use Rattle.std.proofs.Common.{subst}
use Rattle.case_split.specs.Cofactors.{IsCofactor}
use Rattle.case_split.proofs.AddedLemmas.{folded_added}
use Rattle.case_split.proofs.added.Added.add.Goals as goal

pub returns-in-Folded : goal.returns-in-Folded
returns-in-Folded c =
    folded_added c.args.base.now.net.now c.args.cover.now c.args.operands.now c.args.self.now.gates.items c.in-Folded.operand
    (subst (IsCofactor c.args.cover.now c.args.operands.now) c.in-Folded.is c.in_ok-operand.ensures) c.requires.within c.requires.new
