-- What else is true of a run that was played whole.
use Rattle.std.proofs.Common.{map, reverse}
use Rattle.delay_core.proofs.Common.{tick_of}
use Rattle.delay_core.specs.ScheduledRuns.{Scheduled, planned}
use Rattle.delay_core.proofs.EndLemmas.{ticks_told, ticks_in_time, inputs_fit}
use Rattle.delay_core.proofs.UnfairLemmas.{schedule_iff}
use Rattle.delay_core.proofs.whole.play_run.Goals as goal

pub returns-clause-fair : goal.returns-clause-fair
returns-clause-fair c = (schedule_iff c.args.run.now.net c.args.run.now.schedule (planned c.args.run.now)).0 c.in_ok-play_ticks.ensures.whole

pub returns-clause-settled : goal.returns-clause-settled
returns-clause-settled c =
    let run : Scheduled = c.args.run.now in
    let fits = c.ticks.ensures.fits in
    ticks_told run.net (reverse run.schedule.past) run.schedule.latches run.schedule.gates (map tick_of (planned run))
    (record { latches = fits.latches; gates = fits.gates }) (inputs_fit run.net run.vectors run.schedule.ticks fits.inputs)

pub returns-clause-in_time : goal.returns-clause-in_time
returns-clause-in_time c =
    let run : Scheduled = c.args.run.now in
    let fits = c.ticks.ensures.fits in
    ticks_in_time run.net run.schedule.window (reverse run.schedule.past) run.schedule.latches run.schedule.gates (map tick_of (planned run))
    (record { latches = fits.latches; gates = fits.gates }) (inputs_fit run.net run.vectors run.schedule.ticks fits.inputs)
    (returns-clause-fair c)
