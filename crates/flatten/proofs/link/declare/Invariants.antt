use Rattle.std.proofs.Common.{◌≡◌, take, drop}
use Rattle.flatten.proofs.Common.{twice_after, first_twice}
use Rattle.flatten.proofs.link.declare.Given as goal

abbrev pub invariant-loop-name : goal.invariant-loop-name
invariant-loop-name l = record {
  keys : l.set.keys ≡ take l.name-index l.names;
  rest : twice_after l.set.keys (drop l.name-index l.names) ≡ first_twice l.names;
}
