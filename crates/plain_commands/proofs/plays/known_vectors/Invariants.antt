use Rattle.std.proofs.Common.{◌≡◌, ◌≤◌, length, take}
use Rattle.std.specs.Prelude.{vec_capacity, vec_len}
use Rattle.plain_commands.proofs.Common.{known}
use Rattle.plain_commands.proofs.plays.known_vectors.Given as goal

abbrev pub invariant-loop-vector : goal.invariant-loop-vector
invariant-loop-vector l = record {
  values : l.bits.items ≡ known (take l.vector-index l.vectors);
  len : vec_len l.bits ≡ l.vector-index;
  room : length l.vectors ≤ vec_capacity l.bits;
}
