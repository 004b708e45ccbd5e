use Rattle.plain_commands.proofs.Common.{error_seen, played}
use Rattle.probes.proofs.HearingLemmas.{each_whole}
use Rattle.plain_commands.specs.Requests.{shown_by}
use Rattle.plain_commands.proofs.PlanLemmas.{still_stopped}
use Rattle.plain_commands.proofs.ReplayLemmas.{run_probed}
use Rattle.plain_commands.proofs.replays.play_probed.Goals as goal

pub returns-in-Err-clause-comes : goal.returns-in-Err-clause-comes
returns-in-Err-clause-comes g c =
    still_stopped c.args.recorded.now (played c.args.run.now.net.now c.args.run.now.vectors.now c.args.run.now.schedule.now) _ _
    (record { error = error_seen c.in-Err.error; is = c.in-Err.ensures.bad; stops = c.stop_at.ensures })

pub returns-in_err-tell_probed-in-Ok-clause-heard : goal.returns-in_err-tell_probed-in-Ok-clause-heard
returns-in_err-tell_probed-in-Ok-clause-heard g c = each_whole _ _ _ _ _ _ _ c.in-Ok.ensures.heard

pub returns-in_ok-tell_probed-in-Ok-clause-heard : goal.returns-in_ok-tell_probed-in-Ok-clause-heard
returns-in_ok-tell_probed-in-Ok-clause-heard g c = each_whole _ _ _ _ _ _ _ c.in-Ok.ensures.heard

pub returns-in_ok-tell_probed-in-Ok-clause-comes : goal.returns-in_ok-tell_probed-in-Ok-clause-comes
returns-in_ok-tell_probed-in-Ok-clause-comes g c =
    run_probed
    (shown_by (λ b. (goal.Probe-dyn g (b.vtable, b.value)).kind b.value) (λ b. (goal.Probe-dyn g (b.vtable, b.value)).text b.value) c.args.probes.now)
    c.args.wanted c.args.recorded.now c.args.run.now.net.now c.args.run.now.vectors.now c.args.run.now.schedule.now c.in-Ok.field-0.ends.items c.in-Ok.field-0.text.items _
    c.in-Ok.ensures.good c.in-Ok.ensures.shown (rw c.deref.ensures.value at c.in_ok-tell_probed-in-Ok.ensures)
