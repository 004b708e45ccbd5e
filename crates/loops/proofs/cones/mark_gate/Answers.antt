use Rattle.std.proofs.Common.{arith}
use Rattle.loops.proofs.MarkLemmas.{near-marked}
use Rattle.loops.proofs.cones.mark_gate.Goals as goal

pub returns : goal.returns
returns c = grind (arith, near-marked c.args.net.now c.args.gate c.args.marks.now c.mark_sources.new.marks)
