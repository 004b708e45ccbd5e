use Rattle.std.proofs.Common.{◌≡◌, All, false, rules, subst, arith}
use Rattle.std.proofs.lemmas.List.{take_all}
use Rattle.std.proofs.lemmas.List.Elements.{All-more}
use Rattle.case_split.specs.declared.operands.Operand.TheVariants.{Constant}
use Rattle.case_split.proofs.TableLemmas.{operands_decide}
use Rattle.case_split.proofs.choosing.common.Goals as goal

pub loop-leaf-preserved : goal.loop-leaf-preserved
loop-leaf-preserved c =
    All-more (λ leaf. leaf ≡ c.in_ok-first.field-0.now) c.args.leaves.now c.loop-leaf.leaf-index (Constant false) c.loop-leaf-test.true c.loop-leaf.invariant
    (grind (arith, operands_decide, c.ne.ensures, c.if-ne.false))

pub returns : goal.returns
returns c = record {
  among = search rules;
  all = subst (All (λ leaf. leaf ≡ c.in_ok-first.field-0.now)) (take_all c.loop-leaf.leaf-index c.args.leaves.now c.loop-leaf-test.false) c.loop-leaf.invariant;
}
