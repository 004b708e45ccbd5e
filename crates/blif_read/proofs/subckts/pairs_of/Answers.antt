use Rattle.std.proofs.Common.{arith}
use Rattle.blif_read.proofs.PartLemmas.{pair_next}
use Rattle.blif_read.proofs.subckts.pairs_of.Goals as goal

pub loop-k-preserved : goal.loop-k-preserved
loop-k-preserved c =
    let words = c.args.line.now.words in
    grind (arith, pair_next words c.loop-k.k)
