use Rattle.std.proofs.Common.{arith}
use Rattle.probes.proofs.HearingLemmas.{hears_none, hears_more, prefix_part}
use Rattle.probes.proofs.SliceLemmas.{on_err}
use Rattle.probes.proofs.tell.tell_all.Goals as goal

pub loop-change-init : goal.loop-change-init
loop-change-init g c = hears_none _ _ _ _ _

pub loop-change-preserved : goal.loop-change-preserved
loop-change-preserved g c = grind (arith, hears_more _ _ _ _ c.args.changes.now c.loop-change.change-index _ _ _ _ c.loop-change-test.true c.loop-change.invariant c.in_ok-tell_one.ensures.heard)

pub returns-in_err-tell_one-clause-err : goal.returns-in_err-tell_one-clause-err
returns-in_err-tell_one-clause-err g c =
    on_err c.from_residual.result (prefix_part _ _ _ _ c.args.changes.now c.loop-change.change-index _ _ _ c.loop-change.invariant c.in_err-tell_one.ensures.err)
