-- Sets of vectors as nodes of diagrams, on whose variables a netlist's columns are laid by its order.
use Rattle.std.specs.Prelude.{◌≡◌, ◌-◌, ◌<◌, ◌≤◌, ◌&&◌, ℕ, Bool, not, List, length, All}
use Rattle.bdd_store.specs.declared.node.Node.{Node}
use Rattle.bdd_store.specs.Arena.{Arena, den, IsNodeOf}
use Rattle.bdd_store.specs.Subfunctions.{nodes}
use Rattle.cyc_base.specs.Values.{bits}
use Rattle.dual_rail.specs.declared.rail.Rails.{Rails}
use Rattle.dual_rail.specs.Rails.{AreRailsOf, value_of, values_of}
use Rattle.netlist.specs.declared.parts.Parts.{Parts}
use Rattle.netlist.specs.Netlists.{count, columns}
use Rattle.netlist.specs.Fixpoint.{fix}
use Rattle.fixpoint.specs.Orders.{laid}
use Rattle.care_sets.specs.declared.model.CareModel.{CareModel}
use Rattle.care_sets.specs.Care.{CareSet, state_of, is_in_invariant}
use Rattle.refusals.specs.Refusals.{is_initial, is_x}

-- the node is true at the vectors that pass the test
pub record Tells (net : Parts) (a : Arena) (n : Node) (test : List Bool → Bool) : Type 0 where
  pub node : IsNodeOf a n
  pub value : (v : List Bool) → length v ≡ a.vars → den a n (laid net v) ≡ test v

-- true where the first node is and the second isn't
abbrev pub difference : Arena → Node → Node → List Bool → Bool
difference a m n v = den a m v && not (den a n v)

-- w is at least the number of subfunctions of both
pub record BoundsBoth (vars : ℕ) (f g : List Bool → Bool) (w : ℕ) : Type 0 where
  pub first : nodes vars f ≤ w
  pub second : nodes vars g ≤ w

-- true in the set where the rails are unknown
abbrev pub unknown_in : Arena → Node → Rails → List Bool → Bool
unknown_in a set rails v = den a set v && is_x (value_of a rails v)

-- the inits permit the vector's state
abbrev pub starts : Parts → List Bool → Bool
starts net v = is_initial net (state_of net v)

-- w is at least the number of subfunctions of these states, as a function by variable
abbrev pub BoundsStarts : Parts → ℕ → Type 0
BoundsStarts net w = (g : List Bool → Bool) →
    ((v : List Bool) → length v ≡ columns net → g (laid net v) ≡ starts net v) → nodes (columns net) g ≤ w

-- the vector's state is in the invariant
abbrev pub has_state_inside : Parts → CareSet → List Bool → Bool
has_state_inside net care v = is_in_invariant care (state_of net v)

-- the rails of all signals: at each vector they stand for the fixpoint
pub record AreFixed (net : Parts) (a : Arena) (rails : List Rails) : Type 0 where
  pub width : length rails ≡ count net
  pub proper : All (AreRailsOf a) rails
  pub values : (v : List Bool) → length v ≡ a.vars → values_of a rails (laid net v) ≡ fix net (bits v)

-- a care model, of its parts
abbrev pub model_of : Parts → ℕ → List ℕ → CareModel
model_of net first columns = record { net = net; first = first; columns = columns }

-- the model reads so many columns at most, from `first` on
pub record ReadsWithin (first width : ℕ) (model : CareModel) : Type 0 where
  pub start : model.first ≡ first
  pub within : All (λ column. column - first < width) model.columns
