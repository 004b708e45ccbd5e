-- The pins of a selection: columns, and leaves, which are what stands for the gate in the cases; and what its rows ask of them.
use Rattle.std.specs.Prelude.{◌≡◌, ◌==◌, ◌+◌, ◌*◌, ◌<◌, ◌≤◌, ℕ, false, if◌then◌else◌, List, [], ◌∷◌, length, map, All, Contains, slice_index_or}
use Rattle.cover_logic.specs.declared.row.Lit.{Lit}
use Rattle.cover_logic.specs.declared.row.Lit.TheVariants.{One, Any}
use Rattle.cover_logic.specs.declared.row.Row.{Row}
use Rattle.netlist.specs.Netlists.{signal}
use Rattle.case_split.specs.declared.cases.Case.{Case}
use Rattle.case_split.specs.declared.cases.ColumnValue.{ColumnValue}
use Rattle.case_split.specs.declared.operands.Operand.{Operand}
use Rattle.case_split.specs.declared.operands.Operand.TheVariants.{Constant, Wire}
use Rattle.case_split.specs.declared.pins.Pin.{Pin}
use Rattle.case_split.specs.declared.pins.Pin.TheVariants.{Column, Leaf}
use Rattle.case_split.specs.Cubes.{asked_of}

-- what is on a pin
abbrev pub operand_on : List Operand → Pin → Operand
operand_on leaves (Column column) = Wire (signal column)
operand_on leaves (Leaf place) = slice_index_or leaves place (Constant false)

-- what the row of a cube and of a leaf asks of a pin: of a column what the cube does, and of leaves a 1 of this one
abbrev pub asked_at : List ColumnValue → ℕ → Pin → Lit
asked_at cube leaf (Column column) = asked_of cube column
asked_at cube leaf (Leaf place) = if place == leaf then One else Any

-- for each of the first so many leaves a place at which there stands the same
pub record AreFirstsUpTo (leaves : List Operand) (n : ℕ) (firsts : List ℕ) : Type 0 where
  pub width : length firsts ≡ n
  pub same : (i : ℕ) (d : Operand) → i < n → slice_index_or leaves (slice_index_or firsts i 0) d ≡ slice_index_or leaves i d

abbrev pub AreFirsts : List Operand → List ℕ → Type 0
AreFirsts leaves firsts = AreFirstsUpTo leaves (length leaves) firsts

-- ---- the pins of some cases

abbrev pub column_pins : List ColumnValue → List Pin
column_pins cube = map (λ literal. Column literal.column) cube

-- of one case
abbrev pub pins_for : Case → ℕ → List Pin
pins_for case first = Leaf first ∷ column_pins case.cube.items

-- its column has a lower number, if it reads one
abbrev pub IsPinWithin : ℕ → Pin → Type 0
IsPinWithin bound (Column column) = column < bound
IsPinWithin bound (Leaf place) = Unit {0}

-- after pins were added
pub record AddsPins (more old new : List Pin) : Type 0 where
  pub keeps : (pin : Pin) → Contains old pin → Contains new pin
  pub each : All (Contains new) more
  pub within : (bound : ℕ) → All (IsPinWithin bound) old → All (IsPinWithin bound) more → All (IsPinWithin bound) new
  pub few : length new ≤ length old + length more

-- pins for the cases at these places
pub record ArePinsAt (cases : List Case) (firsts places : List ℕ) (pins : List Pin) : Type 0 where
  pub each : All (λ place. (d : Case) → All (Contains pins) (pins_for (slice_index_or cases place d) (slice_index_or firsts place 0))) places
  pub within : (bound : ℕ) → All (λ case. All (λ literal. literal.column < bound) case.cube.items) cases → All (IsPinWithin bound) pins
  pub few : (most : ℕ) → All (λ case. length case.cube.items ≤ most) cases → length pins ≤ length places * (most + 1)

-- pins for all of the cases, and for the last leaf
pub record ArePinsOf (cases : List Case) (firsts : List ℕ) (pins : List Pin) : Type 0 where
  pub each : (i : ℕ) (d : Case) → i < length cases → All (Contains pins) (pins_for (slice_index_or cases i d) (slice_index_or firsts i 0))
  pub last : Contains pins (Leaf (length cases))
  pub within : (bound : ℕ) → All (λ case. All (λ literal. literal.column < bound) case.cube.items) cases → All (IsPinWithin bound) pins
  pub few : (most : ℕ) → All (λ case. length case.cube.items ≤ most) cases → length pins ≤ length cases * (most + 1) + 1

-- ---- rows

-- the rows of the first so many cases
pub record AreRowsOf (cases : List Case) (firsts : List ℕ) (pins : List Pin) (n : ℕ) (rows : List Row) : Type 0 where
  pub inside : n ≤ length cases
  pub width : length rows ≡ n
  pub each : (i : ℕ) (c : Case) (d : Row) → i < n → (slice_index_or rows i d).lits ≡ map (asked_at (slice_index_or cases i c).cube.items (slice_index_or firsts i 0)) pins

-- the rows of the cases, and one of the last leaf
pub record AreRows (cases : List Case) (firsts : List ℕ) (pins : List Pin) (rows : List Row) : Type 0 where
  pub width : length rows ≡ length cases + 1
  pub each : (i : ℕ) (c : Case) (d : Row) → i < length cases → (slice_index_or rows i d).lits ≡ map (asked_at (slice_index_or cases i c).cube.items (slice_index_or firsts i 0)) pins
  pub last : (d : Row) → (slice_index_or rows (length cases) d).lits ≡ map (asked_at [] (length cases)) pins
