-- Cases on care, as they are shown: by values that no care vector has together.
use Rattle.std.specs.Prelude.{◌≡◌, ◌<◌, ℕ, Bool, false, not, List, map, All, slice_index_or}
use Rattle.netlist.specs.declared.parts.Parts.{Parts}
use Rattle.care_sets.specs.Care.{CareSet, IsCareVector}
use Rattle.case_split.specs.declared.cases.Case.{Case}
use Rattle.case_split.specs.declared.cases.ColumnValue.{ColumnValue}
use Rattle.clause_pairs.specs.Cubes.{AskedCare, AsksCare}
use Rattle.clause_pairs.specs.declared.cubes.Cube.{Cube}
use Rattle.clause_pairs.specs.declared.pairs.Fixed.{Fixed}

-- a value, as it is asked for
abbrev pub fixed_of : ColumnValue → Fixed
fixed_of value = record { column = value.column; value = value.value }

abbrev pub cube_of : Case → Cube
cube_of case = record { fixed = map fixed_of case.cube.items }

-- the other value of the column
abbrev pub opposite_of : ColumnValue → ColumnValue
opposite_of value = record { column = value.column; value = not value.value }

-- the vector has these values
abbrev pub HasAll : List Bool → List ColumnValue → Type 0
HasAll v values = All (λ e. slice_index_or v e.column false ≡ e.value) values

-- no care vector has all of these
abbrev pub HaveNone : Parts → CareSet → List ColumnValue → Type 0
HaveNone net care values = (v : List Bool) → IsCareVector net care v → ¬ HasAll v values

-- what is told of the care set of which is asked
abbrev pub ToldBy : AskedCare → (Parts → CareSet → Type 0) → Type 0
ToldBy questions P = (net : Parts) (care : CareSet) → AsksCare net care questions → P net care

-- no care vector has the cubes of both
abbrev pub AreApart : Parts → CareSet → List ColumnValue → List ColumnValue → Type 0
AreApart net care cube other = (v : List Bool) → IsCareVector net care v → HasAll v cube → ¬ HasAll v other

-- each care vector with the case's cube has what is known
abbrev pub ForcesKnown : Parts → CareSet → List ColumnValue → List ColumnValue → Type 0
ForcesKnown net care cube known = (v : List Bool) → IsCareVector net care v → HasAll v cube → HasAll v known

-- a case is apart from each of these
abbrev pub IsApartFromEach : Case → List Case → Parts → CareSet → Type 0
IsApartFromEach case others net care = All (λ other. AreApart net care case.cube.items other.cube.items) others

-- the first so many cases are apart, and what is known in each is forced
pub record AreShown (cases : List Case) (k : ℕ) (net : Parts) (care : CareSet) : Type 0 where
  pub apart : (i j : ℕ) (d : Case) → j < i → i < k → AreApart net care (slice_index_or cases i d).cube.items (slice_index_or cases j d).cube.items
  pub forced : (i : ℕ) (d : Case) → i < k → ForcesKnown net care (slice_index_or cases i d).cube.items (slice_index_or cases i d).known.items
