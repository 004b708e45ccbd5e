use Rattle.std.proofs.Common.{◌<◌, length, arith}
use Rattle.delay_core.proofs.PlanLemmas.{event_fault_left, events_after_left, event_changes_left}
use Rattle.delay_core.proofs.whole.play_events.Goals as goal

pub loop-i-preserved : goal.loop-i-preserved
loop-i-preserved c =
    let short : c.loop-i.i < length c.args.events.now = omega (arith, c.loop-i-test.true, c.len-i-end.ensures) in
    record {
      fault = event_fault_left c.args.play.now.state c.loop-i.play.state c.args.events.now c.loop-i.i short c.play_event.new.play.state
          c.in_ok-play_event.ensures.played c.in_ok-play_event.ensures.none c.loop-i.invariant.fault;
      after = events_after_left c.args.play.now.state c.loop-i.play.state c.args.events.now c.loop-i.i short c.play_event.new.play.state
          c.in_ok-play_event.ensures.played c.loop-i.invariant.after;
      changed = event_changes_left c.args.play.now.state c.loop-i.play.state c.args.events.now c.loop-i.i short c.play_event.new.play.state
          c.in_ok-play_event.ensures.played c.args.log.now c.loop-i.log c.play_event.new.log c.in_ok-play_event.ensures.changed c.loop-i.invariant.changed;
    }
