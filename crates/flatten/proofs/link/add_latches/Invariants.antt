use Rattle.std.proofs.Common.{◌≡◌, ◌++◌, take, drop, map}
use Rattle.flatten.proofs.Common.{twice_after}
use Rattle.flatten.proofs.link.add_latches.Given as goal

abbrev pub invariant-loop-latch : goal.invariant-loop-latch
invariant-loop-latch l = record {
  keys : l.set.keys ≡ l.initial.set.keys ++ map (λ x. x.output) (take l.latch-index l.latches);
  rest : twice_after l.set.keys (map (λ x. x.output) (drop l.latch-index l.latches)) ≡ twice_after l.initial.set.keys (map (λ x. x.output) l.latches);
}
