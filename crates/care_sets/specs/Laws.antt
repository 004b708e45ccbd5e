-- The laws of care sets.
use Rattle.std.specs.Prelude.{◌≡◌, Bool, List, length, IfSome}
use Rattle.std.specs.declared.option.Option.{Option}
use Rattle.netlist.specs.Netlists.{columns}
use Rattle.netlist.specs.declared.parts.Parts.{Parts}
use Rattle.care_sets.specs.declared.fault.CareFault.{CareFault}
use Rattle.care_sets.specs.Binding.{IsCareOf, IsFirstFault, BindsBoth}
use Rattle.care_sets.specs.Care.{CareSet, HasValues}

-- a vector of the netlist has a value for each column that the assumption reads
abbrev pub VectorsServeAssume : Type 0
VectorsServeAssume = (net : Parts) (care : CareSet) (v : List Bool) → IsCareOf net care → length v ≡ columns net → IfSome care.assume (HasValues v)

-- and a state of its latches for each that the invariant reads
abbrev pub StatesServeInvariant : Type 0
StatesServeInvariant = (net : Parts) (care : CareSet) (q : List Bool) → IsCareOf net care → length q ≡ length net.latches → IfSome care.invariant (HasValues q)

-- models that are bound have no fault
abbrev pub BoundModelsHaveNoFault : Type 0
BoundModelsHaveNoFault = (net : Parts) (a i : Option Parts) (care : CareSet) (fault : CareFault) → BindsBoth net a i care → IsFirstFault net a i fault → ⊥

-- and others have one first fault
abbrev pub FirstFaultIsOne : Type 0
FirstFaultIsOne = (net : Parts) (a i : Option Parts) (f g : CareFault) → IsFirstFault net a i f → IsFirstFault net a i g → f ≡ g
