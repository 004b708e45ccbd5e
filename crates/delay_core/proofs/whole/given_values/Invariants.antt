use Rattle.std.proofs.Common.{◌≡◌, ◌≤◌, ◌+◌, length, take}
use Rattle.delay_core.proofs.Common.{vec_len, vec_capacity, bits, newest, given_at}
use Rattle.delay_core.proofs.whole.given_values.Given as goal

abbrev pub invariant-loop-number : goal.invariant-loop-number
invariant-loop-number l =
    record {
      values : l.values.items ≡ take l.number (bits (given_at l.net (newest l.play.state.history)));
      len : vec_len l.values ≡ l.number;
      room : length l.net.inputs + length l.net.latches ≤ vec_capacity l.values;
    }
