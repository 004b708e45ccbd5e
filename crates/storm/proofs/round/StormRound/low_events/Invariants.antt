use Rattle.std.proofs.Common.{◌≡◌, map}
use Rattle.std.specs.List.{range_with_len}
use Rattle.storm.specs.Storms.{low_turn, turn_events}
use Rattle.storm.proofs.round.StormRound.low_events.Given as goal

abbrev pub invariant-loop-gate : goal.invariant-loop-gate
invariant-loop-gate l = l.events ≡ turn_events l.self.net.now l.self.plan.now l.self.back 0 (map (low_turn l.self.plan.now) (range_with_len 0 l.gate))
