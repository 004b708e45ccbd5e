use Rattle.std.proofs.Common.{◌≡◌, [], take, drop}
use Rattle.flatten.specs.Instances.{pair_fault}
use Rattle.flatten.proofs.Common.{bound}
use Rattle.flatten.proofs.bind.bind_pairs.Given as goal

abbrev pub invariant-loop-formal : goal.invariant-loop-formal
invariant-loop-formal l = record {
  table : l.table.entries ≡ bound l.scope.prefix l.scope.table.entries (take l.formal-index l.pairs);
  fault : pair_fault l.formals.keys (take l.formal-index l.pairs) (drop l.formal-index l.pairs) ≡ pair_fault l.formals.keys [] l.pairs;
}
