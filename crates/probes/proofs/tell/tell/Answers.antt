use Rattle.probes.proofs.HearingLemmas.{hears_none, prefix_none, prefix_whole}
use Rattle.probes.proofs.SliceLemmas.{left_more, changed_more, changed_whole, on_err, zip_as}
use Rattle.probes.proofs.tell.tell.Goals as goal

pub loop-i-preserved : goal.loop-i-preserved
loop-i-preserved g c =
    record {
      told = changed_more c.args.probes.now c.loop-i.probes c.loop-i.i c.index-probes-i.result c.tell_all.new.probe c.loop-i.invariant.left c.loop-i-test.true
          _ c.loop-i.invariant.told c.in_ok-tell_all.ensures.heard;
      left = left_more c.args.probes.now c.loop-i.probes c.loop-i.i c.index-probes-i.result c.tell_all.new.probe c.loop-i.invariant.left c.loop-i-test.true;
    }

pub returns-in_err-tell_all-clause-err : goal.returns-in_err-tell_all-clause-err
returns-in_err-tell_all-clause-err g c =
    on_err c.from_residual.result
    (changed_whole c.args.probes.now c.loop-i.probes c.loop-i.i c.index-probes-i.result c.tell_all.new.probe c.loop-i.invariant.left c.loop-i-test.true
    _ (λ p. prefix_none _ _ _ _ _ p p (hears_none _ _ _ _ p))
    (zip_as _ _ (λ a b whole. prefix_whole _ _ _ _ _ a b whole) _ _ c.loop-i.invariant.told)
    c.in_err-tell_all.ensures.err)
