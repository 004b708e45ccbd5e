use Rattle.std.proofs.Common.{◌≡◌, take}
use Rattle.delay_core.proofs.Common.{vec_capacity, seen}
use Rattle.delay_core.proofs.reading.read_pins.Given as goal

abbrev pub invariant-loop-i : goal.invariant-loop-i
invariant-loop-i l =
    record {
      seen : l.bits.items ≡ take l.i (seen l.timeline.history l.pins l.ages);
      capacity : vec_capacity l.bits ≡ vec_capacity l.fn.bits;
    }
