use Rattle.std.proofs.Common.{◌≡◌, map, take}
use Rattle.aig_core.proofs.Common.{Latch}
use Rattle.aig_core.proofs.building.sources.Given as goal

abbrev pub invariant-loop-number : goal.invariant-loop-number
invariant-loop-number l = l.signals.items ≡ map (λ (latch : Latch). latch.from) (take l.number l.net.latches)
