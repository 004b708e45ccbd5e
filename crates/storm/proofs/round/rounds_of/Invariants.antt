use Rattle.std.proofs.Common.{◌≡◌, ◌≤◌, map}
use Rattle.std.specs.Prelude.{vec_len, vec_capacity}
use Rattle.std.specs.List.{range_with_len}
use Rattle.storm.specs.Storms.{nth_round}
use Rattle.storm.proofs.round.rounds_of.Given as goal

abbrev pub invariant-loop-round : goal.invariant-loop-round
invariant-loop-round l =
    record {
      list : l.list.items ≡ map (nth_round l.net l.plan) (range_with_len 0 l.round);
      len : vec_len l.list ≡ l.round;
      room : l.rounds ≤ vec_capacity l.list;
    }
