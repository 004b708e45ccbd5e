use Rattle.std.proofs.Common.{ℕ, take}
use Rattle.ternary_clauses.proofs.Common.{All, AllZip, AreWithin, IsSeen}
use Rattle.ternary_clauses.specs.Sweeps.{IsCopyWithin}
use Rattle.ternary_clauses.proofs.sweeps.LoopCopy.seen_pins.Given as goal

abbrev pub invariant-loop-pin : goal.invariant-loop-pin
invariant-loop-pin l = record {
  seen : AllZip (IsSeen l.self) (take l.pin-index l.signals) l.pins.items;
  within : (v : ℕ) → IsCopyWithin v l.self → All (AreWithin v) l.pins.items;
}
