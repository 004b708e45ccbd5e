-- Care sets: which vectors count. A care file may hold a model `assume` over inputs and latches, and a model
-- `invariant` over latches alone.
use Rattle.std.specs.Prelude.{◌≡◌, ◌+◌, ◌-◌, ◌<◌, ◌++◌, ◌&&◌, ℕ, Bool, true, false, List, length, map, drop, All, slice_index_or}
use Rattle.std.specs.declared.option.Option.{Option}
use Rattle.std.specs.Option.{option_map_or}
use Rattle.cyc_base.specs.declared.trit.Trit.{Trit}
use Rattle.cyc_base.specs.declared.trit.Trit.TheVariants.{Zero, One, X}
use Rattle.cyc_base.specs.Values.{bits}
use Rattle.netlist.specs.Netlists.{columns}
use Rattle.netlist.specs.declared.parts.Parts.{Parts}
use Rattle.netlist.specs.Fixpoint.{outs}
use Rattle.care_sets.specs.declared.model.CareModel.{CareModel}

-- the two models, each absent or there
pub record CareSet : Type 0 where
  pub assume : Option CareModel
  pub invariant : Option CareModel

-- the names of the columns
abbrev pub column_names : Parts → List (List ℕ)
column_names net = net.inputs ++ map (λ latch. latch.name) net.latches

-- the latches' part of a vector
abbrev pub state_of : Parts → List Bool → List Bool
state_of net v = drop (length net.inputs) v

-- the values of a model's inputs, where the columns from its first one on have these values
abbrev pub inputs_at : CareModel → List Bool → List Bool
inputs_at model values = map (λ column. slice_index_or values (column - model.first) false) model.columns

abbrev pub is_one : Trit → Bool
is_one One = true
is_one Zero = false
is_one X = false

-- the model's output is 1 in its fixpoint
abbrev pub holds_at : CareModel → List Bool → Bool
holds_at model values = is_one (slice_index_or (outs model.net (bits (inputs_at model values))) 0 X)

-- The assumption holds at a vector. One that is absent does.
abbrev pub is_allowed : CareSet → List Bool → Bool
is_allowed care v = option_map_or (λ model. holds_at model v) care.assume true

-- The invariant holds of a state of the latches. One that is absent does.
abbrev pub is_in_invariant : CareSet → List Bool → Bool
is_in_invariant care q = option_map_or (λ model. holds_at model q) care.invariant true

-- the vector's state is in the invariant, and the assumption holds at the vector
abbrev pub is_care_vector : Parts → CareSet → List Bool → Bool
is_care_vector net care v = is_in_invariant care (state_of net v) && is_allowed care v

-- a vector of the netlist that counts
pub record IsCareVector (net : Parts) (care : CareSet) (v : List Bool) : Type 0 where
  pub width : length v ≡ columns net
  pub state : is_in_invariant care (state_of net v) ≡ true
  pub allowed : is_allowed care v ≡ true

-- there is a value for each column that the model reads
pub record HasValues (values : List Bool) (model : CareModel) : Type 0 where
  pub each : All (λ column. column - model.first < length values) model.columns
