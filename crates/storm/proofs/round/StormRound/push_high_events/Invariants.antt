use Rattle.std.proofs.Common.{◌≡◌, ◌++◌, length, map, filter}
use Rattle.std.specs.List.{range_with_len}
use Rattle.storm.specs.Storms.{shakes, high_turn, turn_events}
use Rattle.storm.proofs.round.StormRound.push_high_events.Given as goal

abbrev pub invariant-loop-gate : goal.invariant-loop-gate
invariant-loop-gate l =
    l.events ≡ l.fn.events ++ turn_events l.self.net.now l.self.plan.now l.self.back (length l.fn.events) (map (high_turn l.self.plan.now) (filter (shakes l.self.plan.now) (range_with_len 0 l.gate)))
