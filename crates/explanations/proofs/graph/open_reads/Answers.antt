use Rattle.std.proofs.Common.{arith}
use Rattle.explanations.proofs.GraphLemmas.{open_reads_none, open_reads_more, open_reads_skip}
use Rattle.explanations.proofs.graph.open_reads.Goals as goal

pub loop-pin-init : goal.loop-pin-init
loop-pin-init c = grind (arith, open_reads_none c.args.first c.args.known.now c.args.gate.now)

pub loop-pin-preserved : goal.loop-pin-preserved
loop-pin-preserved c =
    grind (arith, open_reads_more c.args.first c.args.known.now c.args.gate.now c.loop-pin.pin c.loop-pin.reads.items, open_reads_skip c.args.first c.args.known.now c.args.gate.now c.loop-pin.pin c.loop-pin.reads.items)
