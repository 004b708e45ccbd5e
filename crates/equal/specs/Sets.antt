-- Sets of vectors as nodes of diagrams, on whose variables a netlist's columns are laid in some order.
use Rattle.std.specs.Prelude.{◌≡◌, ◌<◌, ◌&&◌, ◌||◌, ℕ, Bool, List, length, All}
use Rattle.std.specs.List.{list_any}
use Rattle.bdd_store.specs.declared.node.Node.{Node}
use Rattle.bdd_store.specs.Arena.{Arena, den, IsNodeOf}
use Rattle.bdd_ops.specs.Least.{by_variable}
use Rattle.bdd_ops.specs.Operations.{conjunction}
use Rattle.cyc_base.specs.Values.{bits}
use Rattle.dual_rail.specs.declared.rail.Rails.{Rails}
use Rattle.dual_rail.specs.Rails.{AreRailsOf, values_of}
use Rattle.netlist.specs.declared.parts.Parts.{Parts}
use Rattle.netlist.specs.Netlists.{count}
use Rattle.netlist.specs.Fixpoint.{fix}
use Rattle.fixpoint.specs.Sweeping.{rails_at}
use Rattle.diagram_decision.specs.Sets.{BoundsBoth}
use Rattle.netlist.specs.declared.pair.Pair.{Pair}
use Rattle.equal.specs.declared.parting.ComparedRails.{ComparedRails}

-- the node is true at the vectors that pass the test
pub record TellsBy (order : List ℕ) (a : Arena) (n : Node) (test : List Bool → Bool) : Type 0 where
  pub node : IsNodeOf a n
  pub value : (v : List Bool) → length v ≡ a.vars → den a n (by_variable order v) ≡ test v

-- the rails of all signals: at each vector they stand for the fixpoint
pub record AreFixedBy (order : List ℕ) (net : Parts) (a : Arena) (rails : List Rails) : Type 0 where
  pub width : length rails ≡ count net
  pub proper : All (AreRailsOf a) rails
  pub values : (v : List Bool) → length v ≡ a.vars → values_of a rails (by_variable order v) ≡ fix net (bits v)

-- ---- where two rails differ

-- the set and both rails are those of diagrams
pub record AreComparedIn (a : Arena) (compared : ComparedRails) : Type 0 where
  pub set : IsNodeOf a compared.set
  pub here : AreRailsOf a compared.here
  pub there : AreRailsOf a compared.there

-- in the set the first is 1 and the second 0
abbrev pub is_above : Arena → Node → Rails → Rails → List Bool → Bool
is_above a set here there v = den a set v && conjunction a here.one there.zero v

-- in the set one of them is 1 and the other 0
abbrev pub differ : Arena → Node → Rails → Rails → List Bool → Bool
differ a set here there v = is_above a set here there v || is_above a set there here v

-- the same of the wires of a pair, and of those of some pair
abbrev pub pair_differs : Arena → Node → List Rails → List Bool → Pair → Bool
pair_differs a set rails v pair = differ a set (rails_at rails pair.here.0) (rails_at rails pair.there.0) v

abbrev pub some_differ : Arena → Node → List Rails → List Pair → List Bool → Bool
some_differ a set rails pairs v = list_any (pair_differs a set rails v) pairs

-- both wires have rails
pub record HasRails (rails : List Rails) (pair : Pair) : Type 0 where
  pub here : pair.here.0 < length rails
  pub there : pair.there.0 < length rails

-- ---- what that costs

-- w is at least the number of subfunctions of what is made for one direction
abbrev pub BoundsAbove : Arena → Node → Rails → Rails → ℕ → Type 0
BoundsAbove a set here there w = BoundsBoth a.vars (conjunction a here.one there.zero) (is_above a set here there) w

-- and for both
pub record BoundsPair (a : Arena) (set : Node) (here there : Rails) (w : ℕ) : Type 0 where
  pub above : BoundsAbove a set here there w
  pub below : BoundsAbove a set there here w

abbrev pub BoundsPairs : Arena → Node → List Rails → List Pair → ℕ → Type 0
BoundsPairs a set rails pairs w = All (λ pair. BoundsPair a set (rails_at rails pair.here.0) (rails_at rails pair.there.0) w) pairs
