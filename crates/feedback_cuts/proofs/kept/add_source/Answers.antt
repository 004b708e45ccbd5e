use Rattle.std.proofs.Common.{get_or, arith, []}
use Rattle.feedback_cuts.proofs.Common.{get_or_default}
use Rattle.feedback_cuts.proofs.KeptLemmas.{gained_more}
use Rattle.feedback_cuts.proofs.kept.add_source.Goals as goal

pub loop-reader-preserved : goal.loop-reader-preserved
loop-reader-preserved c =
    let n = get_or c.args.readers.now c.loop-reader.reader-index 0 in
    let size = c.loop-reader.invariant.size in
    let within = c.requires c.loop-reader.reader-index 0 c.loop-reader-test.true in
    rw c.in_ok-push.ensures
    (gained_more c.loop-reader.sources n c.args.gate (get_or c.loop-reader.sources n c.index-sources-reader.result) (omega arith) (get_or_default c.loop-reader.sources n c.index-sources-reader.result [] (omega arith)) c.args.readers.now c.loop-reader.reader-index c.args.sources.now c.loop-reader-test.true
    (λ d. get_or_default c.args.readers.now c.loop-reader.reader-index d 0 c.loop-reader-test.true) c.loop-reader.invariant)
