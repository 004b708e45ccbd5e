use Rattle.probes.proofs.TextLemmas.{texts_more}
use Rattle.probes.proofs.show.show_kind.Goals as goal

pub put_shown-requires : goal.put_shown-requires
put_shown-requires g c = rw c.probe-item.is (c.requires c.loop-probe.probe-index c.probe-item.result c.loop-probe-test.true)

pub loop-probe-preserved : goal.loop-probe-preserved
loop-probe-preserved g c =
    texts_more _ c.args.probes.now c.loop-probe.probe-index c.probe-item.result _ _ c.loop-probe-test.true c.loop-probe.invariant
    (rw c.probe-item.is at c.in_ok-put_shown.ensures)
