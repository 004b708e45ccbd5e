use Rattle.std.proofs.Common.{arith}
use Rattle.case_split.proofs.CofactorLemmas.{none_answer}
use Rattle.case_split.proofs.cofactors.cofactor_of.Goals as goal

pub returns-then-is_empty : goal.returns-then-is_empty
returns-then-is_empty c =
    none_answer c.args.cover.now c.args.operands.now c.rows.result.now c.in_ok-live.live.items c.plane.result
    c.plane.ensures.proper c.rows.ensures.rows c.in_ok-live.ensures c.plane.ensures.plane (grind (arith, c.is_empty.ensures, c.if-is_empty.true))
