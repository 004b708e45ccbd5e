use Rattle.std.proofs.Common.{inr}
use Rattle.probes.proofs.HearingLemmas.{each_none, each_prefix_none}
use Rattle.probes.proofs.SignalLemmas.{changes_known}
use Rattle.probes.proofs.SliceLemmas.{each_err, on_err}
use Rattle.probes.proofs.told.play_told.Goals as goal

pub returns-in_err-ends-clause-err : goal.returns-in_err-ends-clause-err
returns-in_err-ends-clause-err g c = on_err c.from_residual.result (each_prefix_none _ _ _ _ _ _)

pub returns-in_err-ends-clause-silent : goal.returns-in_err-ends-clause-silent
returns-in_err-ends-clause-silent g c = each_err c.from_residual.result _ (λ fault. inr (each_none _ _ _ _ c.args.probes.now))

pub returns-in_err-tell-clause-err : goal.returns-in_err-tell-clause-err
returns-in_err-tell-clause-err g c =
    on_err c.from_residual-in_err-tell.result
    (rw (c.changes.ensures, c.in_ok-ends.ensures.changed, c.new-log.ensures, c.new-run.ensures) at c.in_err-tell.ensures.err)

pub returns-clause-heard : goal.returns-clause-heard
returns-clause-heard g c =
    rw (c.changes.ensures, c.in_ok-ends.ensures.changed, c.new-log.ensures, c.new-run.ensures) at c.in_ok-tell.ensures.heard

pub returns-clause-signals : goal.returns-clause-signals
returns-clause-signals g c = changes_known c.args.net.now c.args.schedule.now c.args.vectors.now (rw c.new-run.ensures at c.in_ok-ends.ensures.whole)
