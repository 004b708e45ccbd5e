-- How care models are bound to a netlist, by the names of their inputs, and what may be wrong with them.
use Rattle.std.specs.Prelude.{◌≡◌, ◌≤◌, ◌⊎◌, ◌==◌, ◌||◌, ℕ, Bool, true, false, nat_lt, List, [], ◌∷◌, length, map, All, Some, None, IfSome, IsSomeAnd, if◌then◌else◌, find, position, is_some, is_none, option_map}
use Rattle.std.specs.declared.option.Option.{Option}
use Rattle.std.specs.Option.{option_map_or}
use Rattle.std.specs.Str.{bytes_eq}
use Rattle.netlist.specs.declared.parts.Parts.{Parts}
use Rattle.netlist.specs.Faults.{first_there}
use Rattle.netlist.specs.Orders.{HasLoop}
use Rattle.netlist.specs.Walks.{IsLoopFree}
use Rattle.care_sets.specs.declared.fault.CareFault.{CareFault}
use Rattle.care_sets.specs.declared.fault.CareFault.TheVariants.{NoModels, HasLatch, NotOneOutput, UnknownName, NotLatch, Loop}
use Rattle.care_sets.specs.declared.model.CareModel.{CareModel}
use Rattle.care_sets.specs.Care.{CareSet, column_names}

-- the column that has this name
abbrev pub column_of : Parts → List ℕ → Option ℕ
column_of net name = position (bytes_eq name) (column_names net)

-- these columns have these names
pub record AreColumnsOf (net : Parts) (names : List (List ℕ)) (columns : List ℕ) : Type 0 where
  pub named : map Some columns ≡ map (column_of net) names

abbrev pub is_unknown_name : Parts → List ℕ → Bool
is_unknown_name net name = is_none (column_of net name)

-- no column has this name, and the fault says so
pub record IsUnknownName (net : Parts) (name : List ℕ) (fault : CareFault) : Type 0 where
  pub unknown : None ≡ column_of net name
  pub is : fault ≡ UnknownName name

-- the column of this name comes before the first one that a model may read
abbrev pub is_before : Parts → ℕ → List ℕ → Bool
is_before net first name = option_map_or (λ column. nat_lt column first) (column_of net name) false

abbrev pub unless : Bool → CareFault → Option CareFault
unless holds fault = if holds then None else Some fault

-- The first fault of a model that may read the columns from `first` on, but for loops.
-- The invariant may read no input: its first column is that of the first latch.
abbrev pub fault_but_loops : Parts → ℕ → Parts → Option CareFault
fault_but_loops net first model = first_there (
    unless (length model.latches == 0) (HasLatch model.name)
    ∷ unless (length model.outputs == 1) (NotOneOutput model.name)
    ∷ option_map UnknownName (find (is_unknown_name net) model.inputs)
    ∷ option_map NotLatch (find (is_before net first) model.inputs)
    ∷ [])

-- the model has a latch or not one output, which comes before what is wrong with its inputs
pub record IsShapeFault (model : Parts) (fault : CareFault) : Type 0 where
  pub first : (net : Parts) (first : ℕ) → fault_but_loops net first model ≡ Some fault

-- a model that can be bound
pub record HasNoFault (net : Parts) (first : ℕ) (model : Parts) : Type 0 where
  pub others : fault_but_loops net first model ≡ None
  pub loop_free : IsLoopFree model

pub record LoopsIn (model : Parts) (fault : CareFault) : Type 0 where
  pub loop : HasLoop model
  pub is : fault ≡ Loop model.name

-- the model has a loop, and no other fault
pub record HasLoopAlone (net : Parts) (first : ℕ) (model : Parts) (fault : CareFault) : Type 0 where
  pub others : fault_but_loops net first model ≡ None
  pub loops : LoopsIn model fault

-- the model's first fault: a loop comes last
abbrev pub IsFaultOf : Parts → ℕ → CareFault → Parts → Type 0
IsFaultOf net first fault model = (fault_but_loops net first model ≡ Some fault) ⊎ HasLoopAlone net first model fault

-- the fault of two models, of which at least one should be there: the assumption's comes before the invariant's
pub record LacksModels (assume invariant : Option Parts) (fault : CareFault) : Type 0 where
  pub no_assume : assume ≡ None
  pub no_invariant : invariant ≡ None
  pub is : fault ≡ NoModels

pub record InvariantFails (net : Parts) (assume invariant : Option Parts) (fault : CareFault) : Type 0 where
  pub assume_passes : IfSome assume (HasNoFault net 0)
  pub invariant_fails : IsSomeAnd invariant (IsFaultOf net (length net.inputs) fault)

abbrev pub IsFirstFault : Parts → Option Parts → Option Parts → CareFault → Type 0
IsFirstFault net assume invariant fault =
    LacksModels assume invariant fault ⊎ (IsSomeAnd assume (IsFaultOf net 0 fault) ⊎ InvariantFails net assume invariant fault)

-- what each care model is: it has no latch, one output and no loop, and reads no column before its first
pub record IsCareModel (model : CareModel) : Type 0 where
  pub latches : length model.net.latches ≡ 0
  pub outputs : length model.net.outputs ≡ 1
  pub loop_free : IsLoopFree model.net
  pub width : length model.columns ≡ length model.net.inputs
  pub columns : All (λ column. model.first ≤ column) model.columns

pub record IsCare (care : CareSet) : Type 0 where
  pub assume : IfSome care.assume IsCareModel
  pub invariant : IfSome care.invariant IsCareModel

-- the model's inputs are the netlist's columns by name, those from `first` on
pub record IsBoundTo (net : Parts) (first : ℕ) (model : CareModel) : Type 0 where
  pub start : model.first ≡ first
  pub names : AreColumnsOf net model.net.inputs model.columns
  pub late : All (λ column. first ≤ column) model.columns

-- the care is the netlist's: that which was bound to it, or one without models
pub record IsCareOf (net : Parts) (care : CareSet) : Type 0 where
  pub assume : IfSome care.assume (IsBoundTo net 0)
  pub invariant : IfSome care.invariant (IsBoundTo net (length net.inputs))

-- The bound model: the same netlist, bound by names, where it has no fault.
pub record Binds (net : Parts) (first : ℕ) (model : Parts) (bound : CareModel) : Type 0 where
  pub kept : bound.net ≡ model
  pub to : IsBoundTo net first bound
  pub valid : IsCareModel bound
  pub passes : HasNoFault net first model

-- and that of a model that is there
abbrev pub BindsAny : Parts → ℕ → Option Parts → Option CareModel → Type 0
BindsAny net first None None = Unit {0}
BindsAny net first None (Some bound) = ⊥
BindsAny net first (Some model) None = ⊥
BindsAny net first (Some model) (Some bound) = Binds net first model bound

-- the care set of two models, of which at least one is there
pub record BindsBoth (net : Parts) (a i : Option Parts) (care : CareSet) : Type 0 where
  pub some : (is_some a || is_some i) ≡ true
  pub assume : BindsAny net 0 a care.assume
  pub invariant : BindsAny net (length net.inputs) i care.invariant
