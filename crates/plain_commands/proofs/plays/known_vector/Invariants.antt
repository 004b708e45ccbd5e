use Rattle.std.proofs.Common.{◌≡◌, ◌≤◌, length, take}
use Rattle.std.specs.Prelude.{map, vec_capacity, vec_len}
use Rattle.care_sets.specs.Care.{is_one}
use Rattle.plain_commands.proofs.plays.known_vector.Given as goal

abbrev pub invariant-loop-value : goal.invariant-loop-value
invariant-loop-value l = record {
  values : l.bits.items ≡ map is_one (take l.value-index l.vector);
  len : vec_len l.bits ≡ l.value-index;
  room : length l.vector ≤ vec_capacity l.bits;
}
