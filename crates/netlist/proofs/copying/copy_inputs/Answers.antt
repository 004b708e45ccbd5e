use Rattle.std.proofs.Common.{arith}
use Rattle.netlist.proofs.CopyLemmas.{taken_first}
use Rattle.netlist.proofs.copying.copy_inputs.Goals as goal

pub loop-number-preserved : goal.loop-number-preserved
loop-number-preserved c = grind (arith, taken_first)
