use Rattle.std.proofs.Common.{Option, IfSome, subst}
use Rattle.case_split.specs.declared.operands.Operand.{Operand}
use Rattle.case_split.specs.Choices.{IsCommon}
use Rattle.case_split.proofs.ChoiceLemmas.{common_chosen}
use Rattle.case_split.proofs.choosing.choose.Goals as goal

pub returns-in-Some : goal.returns-in-Some
returns-in-Some c =
    common_chosen c.args.base.now.net.now c.args.cases.now c.args.leaves.now c.args.added.now.gates.items c.in-Some.operand
    (subst (λ (o : Option Operand). IfSome o (IsCommon c.args.leaves.now)) c.in-Some.is c.common.ensures) c.requires.leaves c.requires.within c.requires.new
