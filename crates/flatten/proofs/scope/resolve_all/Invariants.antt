use Rattle.std.proofs.Common.{◌≡◌, ◌≤◌, length, take, map}
use Rattle.std.specs.Prelude.{vec_capacity, vec_len}
use Rattle.flatten.proofs.Common.{resolved}
use Rattle.flatten.proofs.scope.resolve_all.Given as goal

abbrev pub invariant-loop-name : goal.invariant-loop-name
invariant-loop-name l = record {
  printed : l.printed.items ≡ map (resolved l.scope.prefix l.scope.table.entries) (take l.name-index l.names);
  len : vec_len l.printed ≡ l.name-index;
  room : length l.names ≤ vec_capacity l.printed;
}
