-- Where rails differ, in diagrams that keep their nodes.
use Rattle.std.proofs.Common.{◌≡◌, ℕ, ◌≤◌, Bool, ◌||◌, List, ap, ap₂, ◌∙◌, arith}
use Rattle.equal.proofs.Common.{find, Node, Arena, nodes, vectors, find-alike, Rails, AreRailsOf, is_above, BoundsAbove}
use Rattle.bdd_store.specs.Arena.{IsNodeOf}
use Rattle.bdd_store.specs.Growth.{KeepsNodes}
use Rattle.equal.specs.Sets.{differ, BoundsPair}

-- ---- a function by other nodes

-- it has as many
pub bounded-same : (n m : ℕ) (f g : List Bool → Bool) {w : ℕ} → n ≡ m → ((v : List Bool) → f v ≡ g v) → nodes m g ≤ w → nodes n f ≤ w
bounded-same n m f g {w} vars same fits = grind arith

-- and finds the same
pub first-same : (n m : ℕ) (f g : List Bool → Bool) → n ≡ m → ((v : List Bool) → f v ≡ g v) → find f (vectors n) ≡ find g (vectors m)
first-same n m f g vars same = ap (λ (k : ℕ). find f (vectors k)) vars ∙ find-alike m f g (λ v long. same v)

-- ---- kept nodes

module _ {s t : Arena} (keeps : KeepsNodes s t) (set : Node) (in_set : IsNodeOf s set) where
  pub above-kept : (here there : Rails) → AreRailsOf s here → AreRailsOf s there → (v : List Bool) → is_above t set here there v ≡ is_above s set here there v
  above-kept here there first second v = grind arith

  pub differ-kept : (here there : Rails) → AreRailsOf s here → AreRailsOf s there → (v : List Bool) → differ t set here there v ≡ differ s set here there v
  differ-kept here there first second v = ap₂ (λ x y. x || y) (above-kept here there first second v) (above-kept there here second first v)

  pub bounds-kept : (here there : Rails) → AreRailsOf s here → AreRailsOf s there → {w : ℕ} → BoundsAbove s set here there w → BoundsAbove t set here there w
  bounds-kept here there first second bounds = grind arith

  pub pair-kept : (here there : Rails) → AreRailsOf s here → AreRailsOf s there → {w : ℕ} → BoundsPair s set here there w → BoundsPair t set here there w
  pair-kept here there first second bounds = record { above = bounds-kept here there first second bounds.above; below = bounds-kept there here second first bounds.below }
