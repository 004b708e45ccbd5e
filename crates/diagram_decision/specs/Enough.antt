-- The functions that a decision works with, and how many nodes are enough for it.
use Rattle.std.specs.Prelude.{◌≡◌, ◌<◌, ◌≤◌, ◌+◌, ◌-◌, ◌*◌, ◌⊎◌, ℕ, Bool, List, Option, Result, length, map, IfSome, IsSomeAnd, slice_index_or}
use Rattle.std.specs.Option.{option_map_or}
use Rattle.netlist.specs.Netlists.{columns}
use Rattle.bdd_store.specs.Arena.{Arena}
use Rattle.bdd_store.specs.declared.fault.StoreFault.{StoreFault}
use Rattle.bdd_store.specs.Growth.{IsFullOnlyPast, AddsWithin, GrowsWithin}
use Rattle.bdd_ops.specs.Operations.{bit_at}
use Rattle.cyc_base.specs.declared.trit.Trit.{Trit}
use Rattle.cyc_base.specs.declared.trit.Trit.TheVariants.{X}
use Rattle.cyc_base.specs.Values.{bits}
use Rattle.dual_rail.specs.WorkingLists.{IsWide, BoundsEach}
use Rattle.netlist.specs.declared.parts.Parts.{Parts}
use Rattle.netlist.specs.Fixpoint.{next}
use Rattle.loops.specs.Found.{loops_of}
use Rattle.fixpoint.specs.Orders.{laid}
use Rattle.fixpoint.specs.Working.{no_loops, IsGatePart, effort}
use Rattle.care_sets.specs.declared.model.CareModel.{CareModel}
use Rattle.care_sets.specs.Care.{CareSet, state_of, is_allowed, is_care_vector}
use Rattle.diagram_decision.specs.Causes.{HasModelOver, HasCoverOver, IsStoreFor}
use Rattle.diagram_decision.specs.Costs.{decision_cost}
use Rattle.diagram_decision.specs.Sets.{starts, has_state_inside}

-- the values of a model's inputs, where the columns from its first one on have these values
abbrev pub read_by : CareModel → List Trit → List Trit
read_by model values = map (λ column. slice_index_or values (column - model.first) X) model.columns

-- a function that a care model works with, on these values of the columns
abbrev pub IsOfModel : CareModel → (List Bool → List Trit) → (List Bool → Bool) → Type 0
IsOfModel model values g = IsGatePart model.net no_loops (λ v. read_by model (values v)) g

-- w is at least the number of subfunctions of each function that the model, where there is one, works with
abbrev pub BoundsModel : Option CareModel → ℕ → (List Bool → List Trit) → ℕ → Type 0
BoundsModel model vars values w = IfSome model (λ m. BoundsEach vars (IsOfModel m values) w)

-- A function of a vector that a decision works with: a column, the states that the inits permit, the assumption, the
-- invariant, both of them, or one of the working list of the netlist, of the assumption, of the invariant, or of the
-- invariant on the next state.
pub data IsOfDecision (net : Parts) (care : CareSet) (g : List Bool → Bool) : Type 0 where
  IsColumn : (column : ℕ) → column < columns net → ((v : List Bool) → g v ≡ bit_at column v) → IsOfDecision net care g
  SaysStart : ((v : List Bool) → g v ≡ starts net v) → IsOfDecision net care g
  SaysAllowed : ((v : List Bool) → g v ≡ is_allowed care v) → IsOfDecision net care g
  SaysInside : ((v : List Bool) → g v ≡ has_state_inside net care v) → IsOfDecision net care g
  SaysCare : ((v : List Bool) → g v ≡ is_care_vector net care v) → IsOfDecision net care g
  IsOfNetlist : IsGatePart net (loops_of net) bits g → IsOfDecision net care g
  IsOfAssumption : IsSomeAnd care.assume (λ model. IsOfModel model bits g) → IsOfDecision net care g
  IsOfInvariant : IsSomeAnd care.invariant (λ model. IsOfModel model (λ v. bits (state_of net v)) g) → IsOfDecision net care g
  IsOfNext : IsSomeAnd care.invariant (λ model. IsOfModel model (λ v. next net (bits v)) g) → IsOfDecision net care g

-- such a function, with the columns laid on the variables of diagrams by the netlist's order
pub record IsLaid (net : Parts) (care : CareSet) (g : List Bool → Bool) : Type 0 where
  pub of : List Bool → Bool
  pub is : IsOfDecision net care of
  pub same : (v : List Bool) → length v ≡ columns net → g (laid net v) ≡ of v

-- what a part of a decision does to its diagrams: it makes so many functions, of w nodes each where w is wide, and
-- `Full` has no other cause than a large care model
abbrev pub GrowsInDecision : {T : Type 0} → Result T StoreFault → Arena → Arena → Parts → CareSet → ℕ → Type 0
GrowsInDecision result old new net care count = GrowsWithin result old new (HasModelOver care) (IsWide old.vars (IsLaid net care)) count

-- what a part of a decision does that keeps no nodes but those of roots, where a cover of the netlist may be large too
abbrev pub AddsInDecision : {T : Type 0} → Result T StoreFault → Arena → Arena → Parts → CareSet → ℕ → Type 0
AddsInDecision result old new net care count = AddsWithin result old new (HasCoverOver net care) (IsWide (columns net) (IsLaid net care)) count

-- a number of the netlist and of both care models together
abbrev pub in_all : (Parts → ℕ) → Parts → CareSet → ℕ
in_all f net care = f net + (option_map_or (λ model. f model.net) care.assume 0 + option_map_or (λ model. f model.net) care.invariant 0)

-- So many nodes are enough: w is at least the number of subfunctions of each Boolean combination of at most three
-- functions of the decision, with the columns laid on the variables.
abbrev pub enough : Parts → CareSet → ℕ → ℕ
enough net care w =
    16 * w * (in_all (λ n. length n.gates) net care + 2) * (in_all effort net care + columns net + 4)

-- the limit is at least what is enough
pub record IsEnough (net : Parts) (care : CareSet) (limit : ℕ) : Type 0 where
  pub width : ℕ
  pub wide : IsWide (columns net) (IsLaid net care) width
  pub within : enough net care width ≤ limit

-- it is below that
pub record IsBelowEnough (net : Parts) (care : CareSet) (limit : ℕ) : Type 0 where
  pub below : (w : ℕ) → IsWide (columns net) (IsLaid net care) w → limit < enough net care w

-- why a decision finds its diagrams full: they are the netlist's, and a cover has more nodes than they may have, or
-- for each w that is wide so many more nodes would have been too many
pub record IsFullFor (old new : Arena) (net : Parts) (care : CareSet) : Type 0 where
  pub store : IsStoreFor new net old.limit
  pub cause : (w : ℕ) → IsWide (columns net) (IsLaid net care) w → HasCoverOver net care old.limit ⊎ IsFullOnlyPast old new (w * decision_cost net care)
