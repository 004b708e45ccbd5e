use Rattle.std.proofs.Common.{◌≡◌, ◌+◌, ℕ, take}
use Rattle.std.specs.List.{Contains}
use Rattle.fixpoint.proofs.Common.{rails_at}
use Rattle.fixpoint.proofs.wires.Wires.are_still.Given as goal

abbrev pub invariant-loop-gate : goal.invariant-loop-gate
invariant-loop-gate l = (n : ℕ) → Contains (take l.gate-index l.cuts) n → rails_at l.self.before.items n ≡ rails_at l.self.rails.items (l.first + n)
