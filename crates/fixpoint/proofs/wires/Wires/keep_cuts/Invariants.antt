use Rattle.std.proofs.Common.{◌≡◌, ◌+◌, ℕ, length, take}
use Rattle.fixpoint.proofs.Common.{All, Arena, AreRailsOf, rails_at}
use Rattle.std.specs.List.{Contains}
use Rattle.fixpoint.proofs.wires.Wires.keep_cuts.Given as goal

abbrev pub invariant-loop-gate : goal.invariant-loop-gate
invariant-loop-gate l = record {
  rails : l.self.rails.items ≡ l.initial.self.rails.items;
  width : length l.self.before.items ≡ length l.initial.self.before.items;
  kept : (n : ℕ) → Contains (take l.gate-index l.cuts) n → rails_at l.self.before.items n ≡ rails_at l.initial.self.rails.items (l.first + n);
  others : (n : ℕ) → ¬ Contains (take l.gate-index l.cuts) n → rails_at l.self.before.items n ≡ rails_at l.initial.self.before.items n;
  proper : (a : Arena) → All (AreRailsOf a) l.initial.self.rails.items → All (AreRailsOf a) l.initial.self.before.items → All (AreRailsOf a) l.self.before.items;
}
