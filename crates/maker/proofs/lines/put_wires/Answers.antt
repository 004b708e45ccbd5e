use Rattle.std.proofs.Common.{arith}
use Rattle.maker.specs.Ring.{behind}
use Rattle.maker.proofs.CellLemmas.{part_more}
use Rattle.maker.proofs.lines.put_wires.Goals as goal

pub loop-i-preserved : goal.loop-i-preserved
loop-i-preserved c = grind (arith, part_more behind)
