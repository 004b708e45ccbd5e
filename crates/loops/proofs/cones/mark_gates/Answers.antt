use Rattle.std.proofs.Common.{arith}
use Rattle.loops.specs.Cones.{IsNearOne}
use Rattle.loops.proofs.MarkLemmas.{add-none, near-none}
use Rattle.loops.proofs.cones.mark_gates.Goals as goal

pub loop-gate-init : goal.loop-gate-init
loop-gate-init c = add-none (IsNearOne c.args.net.now c.args.gates.now 0) c.args.marks.now (near-none c.args.net.now c.args.gates.now)

pub loop-gate-preserved : goal.loop-gate-preserved
loop-gate-preserved c = grind arith

pub returns : goal.returns
returns c = grind arith
