-- Pairs of wires that are never apart on care, or in a cube of it.
use Rattle.std.specs.Prelude.{◌≡◌, ◌≤◌, ◌<◌, Bool, true, false, List, All, slice_index_or}
use Rattle.cyc_base.specs.declared.sig.Sig.{Sig}
use Rattle.netlist.specs.Netlists.{columns, is_marked}
use Rattle.netlist.specs.declared.parts.Parts.{Parts}
use Rattle.netlist.specs.Pairs.{some_is_apart}
use Rattle.loops.specs.Sweeps.{first_gate, gate_of}
use Rattle.care_sets.specs.Care.{CareSet, IsCareVector}
use Rattle.clause_pairs.specs.declared.pairs.Fixed.{Fixed}
use Rattle.netlist.specs.declared.pair.Pair.{Pair}
use Rattle.clause_decision.specs.declared.scope.Scope.{Scope}

-- the wires of no pair are apart, at any care vector
abbrev pub AreNeverApart : Parts → CareSet → List Pair → Type 0
AreNeverApart net care pairs = (v : List Bool) → IsCareVector net care v → some_is_apart net pairs v ≡ false

-- a vector has the value that is fixed for a column
abbrev pub HasFixed : List Bool → Fixed → Type 0
HasFixed v fixed = slice_index_or v fixed.column false ≡ fixed.value

-- and each of these
abbrev pub IsInCube : List Fixed → List Bool → Type 0
IsInCube cube v = All (HasFixed v) cube

-- what is fixed are columns of the netlist
abbrev pub IsCubeOf : Parts → List Fixed → Type 0
IsCubeOf net cube = All (λ fixed. fixed.column < columns net) cube

-- the wires of no pair are apart at a care vector in the cube
abbrev pub AreNeverApartIn : Parts → CareSet → List Fixed → List Pair → Type 0
AreNeverApartIn net care cube pairs = (v : List Bool) → IsCareVector net care v → IsInCube cube v → some_is_apart net pairs v ≡ false

-- a wire is an input, a latch or a gate in the scope
abbrev pub IsWireIn : Parts → Scope → Sig → Type 0
IsWireIn net scope s = first_gate net ≤ s.0 → is_marked scope.gates (gate_of net s) ≡ true

-- both wires of each pair are
pub record IsPairIn (net : Parts) (scope : Scope) (pair : Pair) : Type 0 where
  pub here : IsWireIn net scope pair.here
  pub there : IsWireIn net scope pair.there

abbrev pub ArePairsIn : Parts → Scope → List Pair → Type 0
ArePairsIn net scope = All (IsPairIn net scope)
