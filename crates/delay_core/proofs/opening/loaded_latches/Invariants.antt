use Rattle.std.proofs.Common.{◌≡◌, ◌≤◌, length, take}
use Rattle.delay_core.proofs.Common.{vec_len, vec_capacity, newest, loaded_at}
use Rattle.delay_core.proofs.opening.loaded_latches.Given as goal

abbrev pub invariant-loop-number : goal.invariant-loop-number
invariant-loop-number l =
    record {
      bits : l.bits.items ≡ take l.number (loaded_at l.net (newest l.timeline.history));
      len : vec_len l.bits ≡ l.number;
      room : length l.net.latches ≤ vec_capacity l.bits;
    }
