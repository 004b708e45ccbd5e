use Rattle.std.proofs.Common.{◌≡◌, ◌≤◌, length, take, drop, map}
use Rattle.std.specs.Prelude.{vec_capacity, vec_len}
use Rattle.flatten.proofs.Common.{sig_or}
use Rattle.flatten.proofs.Reading.{IsLeft}
use Rattle.flatten.proofs.link.read_all.Given as goal

abbrev pub invariant-loop-name : goal.invariant-loop-name
invariant-loop-name l = record {
  sigs : l.sigs.items ≡ map (sig_or l.drivers) (take l.name-index l.names);
  left : IsLeft l.drivers l.names (drop l.name-index l.names) l.fn.clock l.clock;
  len : vec_len l.sigs ≡ l.name-index;
  room : length l.names ≤ vec_capacity l.sigs;
}
