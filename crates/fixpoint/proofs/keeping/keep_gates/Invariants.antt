use Rattle.std.proofs.Common.{◌≡◌, ◌+◌, ℕ, take}
use Rattle.std.specs.List.{Contains}
use Rattle.fixpoint.proofs.Common.{HoldsRails, GainsRoots, rails_at, place_of}
use Rattle.fixpoint.proofs.keeping.keep_gates.Given as goal

abbrev pub invariant-loop-gate : goal.invariant-loop-gate
invariant-loop-gate l = record {
  gains : GainsRoots l.fn.d l.d;
  kept : (n : ℕ) → Contains (take l.gate-index l.gates) n → HoldsRails l.d (place_of l.places n) (rails_at l.rails (l.first + n));
  others : (n : ℕ) → ¬ Contains (take l.gate-index l.gates) n → place_of l.places n ≡ place_of l.initial.places n;
}
