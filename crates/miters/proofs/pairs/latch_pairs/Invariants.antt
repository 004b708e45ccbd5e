use Rattle.std.proofs.Common.{◌≡◌, map, take}
use Rattle.miters.proofs.Common.{Latch, pair_of, source_named}
use Rattle.miters.proofs.pairs.latch_pairs.Given as goal

abbrev pub invariant-loop-number : goal.invariant-loop-number
invariant-loop-number l = l.pairs.items ≡ map (λ (latch : Latch). pair_of latch.from (source_named l.b latch.name)) (take l.number l.a.latches)
