use Rattle.std.proofs.Common.{get_or, arith}
use Rattle.std.proofs.lemmas.List.{get_or_default}
use Rattle.sat.specs.declared.lit.Lit.{Lit}
use Rattle.sat.proofs.ValueLemmas.{true_holds}
use Rattle.sat.proofs.models.is_satisfied.Goals as goal

pub returns-then-is_true : goal.returns-then-is_true
returns-then-is_true c e = grind (arith, get_or_default c.args.clause.now c.loop-lit.lit-index, true_holds c.args.trail.now.values.items)
