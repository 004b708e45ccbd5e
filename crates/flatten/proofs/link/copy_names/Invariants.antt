use Rattle.std.proofs.Common.{◌≡◌, ◌≤◌, length, take}
use Rattle.std.specs.Prelude.{vec_capacity, vec_len}
use Rattle.flatten.proofs.link.copy_names.Given as goal

abbrev pub invariant-loop-name : goal.invariant-loop-name
invariant-loop-name l = record {
  copied : l.copied.items ≡ take l.name-index l.names;
  len : vec_len l.copied ≡ l.name-index;
  room : length l.names ≤ vec_capacity l.copied;
}
