use Rattle.std.proofs.Common.{◌≡◌, sym, subst, length, true, arith}
use Rattle.cyc_base.specs.declared.sig.Sig.{Sig}
use Rattle.case_split.specs.declared.operands.Operand.TheVariants.{Wire}
use Rattle.case_split.specs.Cofactors.{IsFolded}
use Rattle.case_split.proofs.CofactorLemmas.{same_folded}
use Rattle.case_split.proofs.cofactors.fold.Goals as goal

pub returns-then-is_same : goal.returns-then-is_same
returns-then-is_same c cover os is =
    let one : length c.args.wires.items ≡ 1 = grind (arith, c.len.ensures, c.if-len-eq1.true) in
    let so : c.is_same.result ≡ true = c.if-is_same.true in
    subst (λ (w : Sig). IsFolded cover os (Wire w)) (sym c.index.ensures)
    (same_folded cover os c.args.rest c.args.wires.items c.index.result.now one (c.is_same.ensures.low so) (c.is_same.ensures.high so) is)
