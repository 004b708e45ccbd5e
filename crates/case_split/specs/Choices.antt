-- The selection among what stands for a gate in the cases: a sum of products, with a row for each case.
use Rattle.std.specs.Prelude.{◌≡◌, ◌≢◌, ◌⊎◌, ◌+◌, ◌*◌, ◌<◌, ◌≤◌, ℕ, true, false, not, List, length, map, All, Contains, slice_index_or}
use Rattle.cyc_base.specs.declared.limits.TheConstants.{MAX_PINS}
use Rattle.cyc_base.specs.declared.sig.Sig.{Sig}
use Rattle.cyc_base.specs.declared.trit.Trit.{Trit}
use Rattle.cyc_base.specs.declared.trit.Trit.TheVariants as trit
use Rattle.cyc_base.specs.Values.{bit, Below}
use Rattle.cover_logic.specs.Covers.{Cover}
use Rattle.netlist.specs.declared.parts.Gate.{Gate}
use Rattle.netlist.specs.declared.parts.Parts.{Parts}
use Rattle.netlist.specs.Netlists.{count, signal}
use Rattle.case_split.specs.declared.cases.Case.{Case}
use Rattle.case_split.specs.declared.cases.ColumnValue.{ColumnValue}
use Rattle.case_split.specs.declared.operands.Operand.{Operand}
use Rattle.case_split.specs.declared.operands.Operand.TheVariants.{Constant}
use Rattle.case_split.specs.declared.pins.Pin.{Pin}
use Rattle.case_split.specs.Operands.{value_by, Agrees, IsWithin}
use Rattle.case_split.specs.Added.{AreNew, IsAdded, IsMore}
use Rattle.case_split.specs.Cubes.{IsCube}
use Rattle.case_split.specs.Pins.{operand_on, AreFirsts, ArePinsOf, AreRows}

-- ---- where f gives the values of wires

-- a literal holds
abbrev pub HoldsBy : (Sig → Trit) → ColumnValue → Type 0
HoldsBy f literal = f (signal literal.column) ≡ bit literal.value

-- a literal of the cube is contradicted
pub record IsOutBy (f : Sig → Trit) (cube : List ColumnValue) : Type 0 where
  pub literal : ColumnValue
  pub among : Contains cube literal
  pub contradicted : f (signal literal.column) ≡ bit (not literal.value)

-- the cube of this case holds, and each other one is out
pub record IsOnlyBy (f : Sig → Trit) (cases : List Case) (i : ℕ) : Type 0 where
  pub here : (d : Case) → All (HoldsBy f) (slice_index_or cases i d).cube.items
  pub others : (j : ℕ) (d : Case) → j < length cases → j ≢ i → IsOutBy f (slice_index_or cases j d).cube.items

-- ---- what is chosen

-- so many cases, whose cubes have so few literals, fit one cover
pub record AreNarrow (cases : List Case) : Type 0 where
  pub most : ℕ
  pub each : All (λ case. length case.cube.items ≤ most) cases
  pub fits : length cases * (most + 1) + 1 ≤ MAX_PINS

-- so many of these cases are
pub record IsGroupSize (cases : List Case) (size : ℕ) : Type 0 where
  pub most : ℕ
  pub each : All (λ case. length case.cube.items ≤ most) cases
  pub fits : size * (most + 1) + 1 ≤ MAX_PINS

-- what stands for the gate in a case that no vector has is 0
abbrev pub AreLeavesOf : List Case → List Operand → Type 0
AreLeavesOf cases leaves = (i : ℕ) (c : Case) (d : Operand) → i < length cases → IsCube (slice_index_or cases i c).cube.items ⊎ (slice_index_or leaves i d ≡ Constant false)

-- the cover of a selection has a row for each case, and one for the last leaf
pub record IsSelectionCover (cases : List Case) (firsts : List ℕ) (pins : List Pin) (cover : Cover) : Type 0 where
  pub plane : cover.plane ≡ true
  pub counted : length pins ≡ cover.pins
  pub rows : AreRows cases firsts pins cover.rows

-- what a gate shows that selects among these leaves by the cubes of the cases
pub record IsSelected (net : Parts) (cases : List Case) (leaves : List Operand) (old new : List Gate) (operand : Operand) : Type 0 where
  pub firsts : List ℕ
  pub are_firsts : AreFirsts leaves firsts
  pub pins : List Pin
  pub are_pins : ArePinsOf cases firsts pins
  pub cover : Cover
  pub is : IsSelectionCover cases firsts pins cover
  pub added : IsAdded net cover (map (operand_on leaves) pins) old new operand

-- one operand is all of these
pub record IsCommon (leaves : List Operand) (operand : Operand) : Type 0 where
  pub among : Contains leaves operand
  pub all : All (λ leaf. leaf ≡ operand) leaves

-- what is chosen among some cases, or what was chosen before
pub record IsChosenNext (net : Parts) (cases : List Case) (leaves : List Operand) (before : Operand) (old new : List Gate) (chosen : Operand) : Type 0 where
  pub here : (f : Sig → Trit) → Agrees f (count net) new → (i : ℕ) (d : Operand) → i < length cases → IsOnlyBy f cases i → value_by f before ≡ trit.Zero → Below (value_by f (slice_index_or leaves i d)) (value_by f chosen)
  pub none : (f : Sig → Trit) → Agrees f (count net) new → All (λ case. IsOutBy f case.cube.items) cases → Below (value_by f before) (value_by f chosen)
  pub more : IsMore old new 1
  pub are : AreNew net new
  pub within : IsWithin (count net + length new) chosen

-- what is chosen among the first so many cases
pub record IsChosenUpTo (net : Parts) (cases : List Case) (leaves : List Operand) (n : ℕ) (old new : List Gate) (chosen : Operand) : Type 0 where
  pub inside : n ≤ length cases
  pub here : (f : Sig → Trit) → Agrees f (count net) new → (i : ℕ) (d : Operand) → i < n → IsOnlyBy f cases i → Below (value_by f (slice_index_or leaves i d)) (value_by f chosen)
  pub later : (f : Sig → Trit) → Agrees f (count net) new → (i : ℕ) → n ≤ i → IsOnlyBy f cases i → value_by f chosen ≡ trit.Zero
  pub more : IsMore old new n
  pub are : AreNew net new
  pub within : IsWithin (count net + length new) chosen

-- what is chosen among the cases
pub record IsChosen (net : Parts) (cases : List Case) (leaves : List Operand) (old new : List Gate) (chosen : Operand) : Type 0 where
  pub under : (f : Sig → Trit) → Agrees f (count net) new → (i : ℕ) (d : Operand) → i < length cases → IsOnlyBy f cases i → Below (value_by f (slice_index_or leaves i d)) (value_by f chosen)
  pub more : IsMore old new (length cases)
  pub are : AreNew net new
  pub within : IsWithin (count net + length new) chosen
