use Rattle.std.proofs.Common.{◌≡◌, ◌≤◌, length, map}
use Rattle.std.specs.Prelude.{vec_len, vec_capacity}
use Rattle.std.specs.List.{range_with_len}
use Rattle.storm.specs.Plans.{pin_values}
use Rattle.storm.proofs.planning.all_pin_values.Given as goal

abbrev pub invariant-loop-number : goal.invariant-loop-number
invariant-loop-number l =
    record {
      list : l.list.items ≡ map (pin_values l.net l.values l.wanted) (range_with_len 0 l.number);
      len : vec_len l.list ≡ l.number;
      room : length l.net.gates ≤ vec_capacity l.list;
    }
