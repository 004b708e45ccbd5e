-- Tick by tick, a run is played whole.
use Rattle.std.proofs.Common.{[], arith}
use Rattle.delay_core.proofs.Common.{PlayFault}
use Rattle.delay_core.specs.ScheduledRuns.{Scheduled}
use Rattle.delay_core.proofs.WholeLemmas.{err_is, first_opens, next_opens, tick_fails, tick_played, whole_none, whole_ends, whole_changes}
use Rattle.delay_core.proofs.whole.play_ticks.Goals as goal

pub loop-tick-init : goal.loop-tick-init
loop-tick-init c =
    let run : Scheduled = c.args.run.now in
    let ready = first_opens run c.args.log.now c.ticks-tick-end.ensures.fits c.requires.some in
    record {
      played = rw (c.in_ok-play_opened.ensures.ends, c.requires.none)
          (tick_played run c.args.log.now c.args.play.now.state [] c.args.log.now 0 (rw c.requires.opened ready) c.play_opened.new.play.state c.play_opened.new.log
          c.in_ok-play_opened.ensures.none c.in_ok-play_opened.ensures.played c.in_ok-play_opened.ensures.changed);
      simulator = c.play_opened.ensures.simulator;
    }

pub returns-in_err-play_opened-2-clause-fault : goal.returns-in_err-play_opened-2-clause-fault
returns-in_err-play_opened-2-clause-fault c =
    let run : Scheduled = c.args.run.now in
    let i = c.loop-tick.tick in
    let fault : PlayFault = c.in_err-play_opened-2.field-0.0 in
    let ready = next_opens run c.args.log.now c.ticks-tick-end.ensures.fits i (omega (arith, c.loop-tick-test.true, c.ticks-tick-end.ensures.ticks)) _ _ _ c.loop-tick.invariant.played in
    grind (arith, err_is c.from_residual-in_err-play_opened-2.result fault, tick_fails run c.args.log.now _ _ _ i ready fault)

pub loop-tick-preserved : goal.loop-tick-preserved
loop-tick-preserved c =
    let run : Scheduled = c.args.run.now in
    let i = c.loop-tick.tick in
    let ready = next_opens run c.args.log.now c.ticks-tick-end.ensures.fits i (omega (arith, c.loop-tick-test.true, c.ticks-tick-end.ensures.ticks)) _ _ _ c.loop-tick.invariant.played in
    record {
      played = rw c.in_ok-play_opened-2.ensures.ends
          (tick_played run c.args.log.now c.open.new.play.state c.loop-tick.ends.items c.loop-tick.log i (rw c.in_ok-open.ensures ready) c.play_opened-in-loop-tick.new.play.state c.play_opened-in-loop-tick.new.log
          c.in_ok-play_opened-2.ensures.none c.in_ok-play_opened-2.ensures.played c.in_ok-play_opened-2.ensures.changed);
      simulator = c.play_opened-in-loop-tick.ensures.simulator;
    }

pub returns-clause-whole : goal.returns-clause-whole
returns-clause-whole c =
    whole_none c.args.run.now c.args.log.now _ _ _ c.loop-tick.tick c.loop-tick.invariant.played (omega (arith, c.loop-tick-test.false, c.ticks-tick-end.ensures.ticks))

pub returns-clause-ends : goal.returns-clause-ends
returns-clause-ends c =
    whole_ends c.args.run.now c.args.log.now _ _ _ c.loop-tick.tick c.loop-tick.invariant.played (omega (arith, c.loop-tick-test.false, c.ticks-tick-end.ensures.ticks))

pub returns-clause-changed : goal.returns-clause-changed
returns-clause-changed c =
    whole_changes c.args.run.now c.args.log.now _ _ _ c.loop-tick.tick c.loop-tick.invariant.played (omega (arith, c.loop-tick-test.false, c.ticks-tick-end.ensures.ticks))
