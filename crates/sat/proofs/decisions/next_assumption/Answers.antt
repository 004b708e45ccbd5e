use Rattle.std.proofs.Common.{◌≡◌, List, arith, subst}
use Rattle.std.specs.List.{All}
use Rattle.std.proofs.lemmas.List.{take_all}
use Rattle.std.proofs.lemmas.List.Elements.{All-more}
use Rattle.sat.specs.declared.lit.Lit.{Lit}
use Rattle.sat.specs.declared.values.Truth.TheVariants.{True}
use Rattle.sat.specs.Values.{value_of}
use Rattle.sat.proofs.decisions.next_assumption.Goals as goal

pub loop-assumption-preserved : goal.loop-assumption-preserved
loop-assumption-preserved c =
    All-more (λ x. value_of c.args.trail.now.values.items x ≡ True) c.args.assumptions.now c.loop-assumption.assumption-index (record { code = 0 }) c.loop-assumption-test.true c.loop-assumption.invariant
    (c.is_true.ensures c.if-not-is_true.false)

pub returns : goal.returns
returns c = grind (arith, take_all c.loop-assumption.assumption-index c.args.assumptions.now)
