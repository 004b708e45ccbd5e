use Rattle.std.proofs.Common.{◌≡◌, drop}
use Rattle.delay_core.proofs.Common.{events_fault, after_planned}
use Rattle.delay_core.specs.Changes.{event_changes, logged}
use Rattle.delay_core.proofs.whole.play_events.Given as goal

abbrev pub invariant-loop-i : goal.invariant-loop-i
invariant-loop-i l =
    record {
      fault : events_fault l.fn.play.state l.events ≡ events_fault l.play.state (drop l.i l.events);
      after : after_planned l.fn.play.state l.events ≡ after_planned l.play.state (drop l.i l.events);
      changed : logged l.fn.log (event_changes l.fn.play.state l.events) ≡ logged l.log (event_changes l.play.state (drop l.i l.events));
    }
