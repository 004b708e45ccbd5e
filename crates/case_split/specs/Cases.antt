-- Cases: what they say of columns.
use Rattle.std.specs.Prelude.{◌≡◌, ◌≢◌, ◌<◌, ◌≤◌, ℕ, not, List, length, All, Contains, slice_index_or}
use Rattle.cyc_base.specs.declared.trit.Trit.{Trit}
use Rattle.cyc_base.specs.declared.trit.Trit.TheVariants.{X}
use Rattle.cyc_base.specs.Values.{bit}
use Rattle.case_split.specs.declared.cases.Case.{Case}
use Rattle.case_split.specs.declared.cases.ColumnValue.{ColumnValue}

-- a literal holds at a vector where its column has its value, and it is contradicted where the column has the other one
abbrev pub Holds : List Trit → ColumnValue → Type 0
Holds v literal = slice_index_or v literal.column X ≡ bit literal.value

abbrev pub IsContradicted : List Trit → ColumnValue → Type 0
IsContradicted v literal = slice_index_or v literal.column X ≡ bit (not literal.value)

-- all that is known in the case holds
pub record IsInCase (v : List Trit) (case : Case) : Type 0 where
  pub cube : All (Holds v) case.cube.items
  pub known : All (Holds v) case.known.items

-- a literal of the case's cube is contradicted
pub record IsRuledOut (v : List Trit) (case : Case) : Type 0 where
  pub literal : ColumnValue
  pub among : Contains case.cube.items literal
  pub contradicted : IsContradicted v literal

-- the vector is in one of these cases, and each other one is ruled out
pub record IsInOneCase (cases : List Case) (v : List Trit) : Type 0 where
  pub number : ℕ
  pub within : number < length cases
  pub here : (d : Case) → IsInCase v (slice_index_or cases number d)
  pub others : (i : ℕ) (d : Case) → i < length cases → i ≢ number → IsRuledOut v (slice_index_or cases i d)

-- each literal is of a column below a bound
abbrev pub AreOfColumns : ℕ → List ColumnValue → Type 0
AreOfColumns bound literals = All (λ literal. literal.column < bound) literals

-- the case speaks of columns below a bound, and its cube has at most 1,000 literals: a cover has at most 1,024 pins
pub record IsUsable (bound : ℕ) (case : Case) : Type 0 where
  pub cube : AreOfColumns bound case.cube.items
  pub known : AreOfColumns bound case.known.items
  pub narrow : length case.cube.items ≤ 1000
