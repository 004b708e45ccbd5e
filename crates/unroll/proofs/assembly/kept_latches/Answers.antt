use Rattle.std.proofs.Common.{arith}
use Rattle.unroll.proofs.Common.{kept_latch}
use Rattle.netlist.proofs.CopyLemmas.{taken_mapped}
use Rattle.unroll.proofs.assembly.kept_latches.Goals as goal

pub loop-number-preserved : goal.loop-number-preserved
loop-number-preserved c =
    let net = c.args.net.now in
    grind (arith, taken_mapped (kept_latch net c.args.by) net.latches c.loop-number.number c.latch.result.now c.latch.ensures.latch)
