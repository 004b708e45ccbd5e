use Rattle.std.proofs.Common.{arith}
use Rattle.explanations.proofs.SideLemmas.{marks_none, marks_more}
use Rattle.explanations.proofs.sides.marks_of.Goals as goal

pub loop-gate-init : goal.loop-gate-init
loop-gate-init c = grind (arith, marks_none c.args.net.now c.args.gates.now)

pub loop-gate-preserved : goal.loop-gate-preserved
loop-gate-preserved c = grind (arith, marks_more c.args.net.now c.args.gates.now c.loop-gate.gate-index c.loop-gate.marks.items)
