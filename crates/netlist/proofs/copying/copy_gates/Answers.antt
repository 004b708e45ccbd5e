use Rattle.std.proofs.Common.{arith}
use Rattle.netlist.proofs.CopyLemmas.{taken}
use Rattle.netlist.proofs.copying.copy_gates.Goals as goal

pub loop-number-preserved : goal.loop-number-preserved
loop-number-preserved c = grind (arith, taken c.args.net.now.gates c.loop-number.number c.gate.result.now c.gate.ensures.gate)
