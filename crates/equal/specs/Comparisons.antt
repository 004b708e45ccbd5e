-- The functions that a comparison works with, and how many nodes are enough for it.
use Rattle.std.specs.Prelude.{◌≡◌, ◌<◌, ◌+◌, ◌*◌, ◌⊎◌, ℕ, Bool, List, Result, length, IsSomeAnd}
use Rattle.netlist.specs.Netlists.{columns}
use Rattle.bdd_store.specs.declared.fault.StoreFault.{StoreFault}
use Rattle.bdd_store.specs.Arena.{Arena}
use Rattle.bdd_store.specs.Growth.{AddsWithin, IsFullOnlyPast}
use Rattle.bdd_ops.specs.Least.{by_variable}
use Rattle.bdd_ops.specs.Operations.{bit_at}
use Rattle.cyc_base.specs.Values.{bits}
use Rattle.dual_rail.specs.WorkingLists.{IsWide}
use Rattle.netlist.specs.declared.parts.Parts.{Parts}
use Rattle.loops.specs.Found.{loops_of}
use Rattle.fixpoint.specs.Working.{IsGatePart}
use Rattle.care_sets.specs.Care.{CareSet, state_of, is_care_vector}
use Rattle.diagram_decision.specs.Causes.{HasCoverOver, IsStoreFor}
use Rattle.diagram_decision.specs.Costs.{assume_effort, invariant_effort, solving_cost}
use Rattle.diagram_decision.specs.Enough.{IsOfModel, enough}
use Rattle.netlist.specs.declared.pair.Pair.{Pair}

-- A function of a vector that a comparison works with: a column, the care vectors, or one of the working list of the
-- netlist, of the assumption, or of the invariant.
pub data IsOfComparison (net : Parts) (care : CareSet) (g : List Bool → Bool) : Type 0 where
  IsColumn : (column : ℕ) → column < columns net → ((v : List Bool) → g v ≡ bit_at column v) → IsOfComparison net care g
  SaysCare : ((v : List Bool) → g v ≡ is_care_vector net care v) → IsOfComparison net care g
  IsOfNetlist : IsGatePart net (loops_of net) bits g → IsOfComparison net care g
  IsOfAssumption : IsSomeAnd care.assume (λ model. IsOfModel model bits g) → IsOfComparison net care g
  IsOfInvariant : IsSomeAnd care.invariant (λ model. IsOfModel model (λ v. bits (state_of net v)) g) → IsOfComparison net care g

-- such a function, with the columns laid on the variables of diagrams in this order
pub record IsLaidBy (order : List ℕ) (net : Parts) (care : CareSet) (g : List Bool → Bool) : Type 0 where
  pub of : List Bool → Bool
  pub is : IsOfComparison net care of
  pub same : (v : List Bool) → length v ≡ columns net → g (by_variable order v) ≡ of v

-- ---- costs: how many functions each part makes

-- the care vectors: the invariant, the assumption, and both
abbrev pub care_cost : CareSet → ℕ
care_cost care = 2 * invariant_effort care + 2 * assume_effort care + 1

-- two functions for each direction of a pair
abbrev pub pairs_cost : List Pair → ℕ
pairs_cost pairs = 4 * length pairs

abbrev pub whole_cost : Parts → CareSet → List Pair → ℕ
whole_cost net care pairs = care_cost care + (solving_cost net + pairs_cost pairs)

-- both rails of each column, whose nodes are fewer than two functions of w nodes have, and then the rest
abbrev pub comparison_cost : Parts → CareSet → List Pair → ℕ
comparison_cost net care pairs = 2 + whole_cost net care pairs

-- what a part of a comparison adds: so many functions, of w nodes each where w is wide. `Full` has no other cause than a
-- large cover.
abbrev pub AddsInComparison : {T : Type 0} → Result T StoreFault → Arena → Arena → List ℕ → Parts → CareSet → ℕ → Type 0
AddsInComparison result old new order net care number = AddsWithin result old new (HasCoverOver net care) (IsWide (columns net) (IsLaidBy order net care)) number

-- ---- what is enough

-- The limit is below what is enough: w is at least the number of subfunctions of each Boolean combination of at most three
-- functions of the comparison, with the columns laid on the variables.
pub record IsBelowEnoughFor (order : List ℕ) (net : Parts) (care : CareSet) (pairs : List Pair) (limit : ℕ) : Type 0 where
  pub below : (w : ℕ) → IsWide (columns net) (IsLaidBy order net care) w → limit < enough net care w + 8 * w * length pairs

-- why a comparison finds its diagrams full: they are the netlist's, and a cover has more nodes than they may have, or for
-- each w that is wide so many more nodes would have been too many
pub record IsFullFor (old new : Arena) (order : List ℕ) (net : Parts) (care : CareSet) (pairs : List Pair) : Type 0 where
  pub store : IsStoreFor new net old.limit
  pub cause : (w : ℕ) → IsWide (columns net) (IsLaidBy order net care) w →
      HasCoverOver net care old.limit ⊎ IsFullOnlyPast old new (w * comparison_cost net care pairs)
