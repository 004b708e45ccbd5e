use Rattle.std.proofs.Common.{◌≡◌, ◌++◌, take, reverse, length}
use Rattle.delay_core.proofs.Common.{newest}
use Rattle.delay_core.proofs.opening.push_all.Given as goal

abbrev pub invariant-loop-moment : goal.invariant-loop-moment
invariant-loop-moment l =
    record {
      history : l.timeline.history ≡ reverse (take l.moment-index l.moments) ++ l.fn.timeline.history;
      width : length (newest l.timeline.history) ≡ length (newest l.fn.timeline.history);
    }
