use Rattle.std.proofs.Common.{arith}
use Rattle.std.proofs.lemmas.List.{get_or_default}
use Rattle.cyc_base.specs.declared.trit.Trit.TheVariants.{Zero, X}
use Rattle.explanations.proofs.SideLemmas.{all_sides_none, all_sides_more}
use Rattle.explanations.proofs.sides.all_sides.Goals as goal

pub loop-signal-init : goal.loop-signal-init
loop-signal-init c = grind (arith, all_sides_none c.args.known.now c.args.marks.now)

pub loop-signal-preserved : goal.loop-signal-preserved
loop-signal-preserved c =
    grind (arith, all_sides_more c.args.known.now c.args.marks.now c.loop-signal.signal c.loop-signal.sides.items, get_or_default c.args.known.now c.loop-signal.signal Zero X (omega arith))
