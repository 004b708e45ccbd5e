use Rattle.std.proofs.Common.{[], arith}
use Rattle.blif_read.proofs.WordLemmas.{slice_more}
use Rattle.blif_read.proofs.words.names_between.Goals as goal

pub loop-k-preserved : goal.loop-k-preserved
loop-k-preserved c =
    let words = c.args.line.now.words in
    grind (arith, slice_more words c.args.from c.loop-k.k [])
