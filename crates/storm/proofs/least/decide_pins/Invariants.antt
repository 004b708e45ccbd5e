use Rattle.std.proofs.Common.{◌≡◌, ◌≢◌, not}
use Rattle.cyc_base.specs.Values.{bit}
use Rattle.cover_logic.specs.Covers.{value}
use Rattle.cover_logic.specs.Extensions.{ext}
use Rattle.storm.specs.Least.{least_where, AreKnown}
use Rattle.storm.proofs.least.decide_pins.Given as goal

abbrev pub invariant-loop-pin : goal.invariant-loop-pin
invariant-loop-pin l = record {
  known : AreKnown l.trits l.pin;
  possible : ext l.cover l.trits ≢ bit (not l.wanted);
  least : least_where (value l.cover) l.wanted l.trits ≡ least_where (value l.cover) l.wanted l.fn.trits;
}
