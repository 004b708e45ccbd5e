use Rattle.std.proofs.Common.{◌≡◌, ◌≤◌, length, take, drop, map}
use Rattle.std.specs.Prelude.{vec_capacity, vec_len}
use Rattle.flatten.proofs.Common.{latch_with, sig_or}
use Rattle.flatten.proofs.Reading.{IsLeft}
use Rattle.flatten.proofs.link.flat_latches.Given as goal

abbrev pub invariant-loop-latch : goal.invariant-loop-latch
invariant-loop-latch l = record {
  flat : l.flat.items ≡ map (latch_with (sig_or l.drivers)) (take l.latch-index l.latches);
  left : IsLeft l.drivers (map (λ x. x.from) l.latches) (map (λ x. x.from) (drop l.latch-index l.latches)) l.fn.clock l.clock;
  len : vec_len l.flat ≡ l.latch-index;
  room : length l.latches ≤ vec_capacity l.flat;
}
