-- The heads: the gates that stand at the places of the netlist's own.
use Rattle.std.specs.Prelude.{◌≡◌, ◌⊎◌, ◌+◌, ◌*◌, ◌<◌, ℕ, Bool, true, false, if◌then◌else◌, List, [], ◌∷◌, length, map, All, Option, Some, None, slice_index_or}
use Rattle.cyc_base.specs.declared.sig.Sig.{Sig}
use Rattle.cyc_base.specs.declared.trit.Trit.{Trit}
use Rattle.cyc_base.specs.Values.{Below}
use Rattle.cover_logic.specs.Extensions.{ext}
use Rattle.cover_logic.specs.declared.row.Lit.{Lit}
use Rattle.cover_logic.specs.declared.row.Lit.TheVariants.{One}
use Rattle.cover_logic.specs.declared.row.Row.{Row}
use Rattle.netlist.specs.declared.parts.Gate.{Gate}
use Rattle.netlist.specs.declared.parts.Parts.{Parts}
use Rattle.netlist.specs.Netlists.{count, gate_at, gate_sig, no_gate, is_marked}
use Rattle.case_split.specs.declared.cases.Case.{Case}
use Rattle.case_split.specs.declared.operands.Operand.{Operand}
use Rattle.case_split.specs.declared.operands.Operand.TheVariants.{Constant}
use Rattle.case_split.specs.Operands.{value_by, Agrees, IsWithin}
use Rattle.case_split.specs.Added.{AreNew, IsMore}
use Rattle.case_split.specs.Cubes.{IsCube}
use Rattle.case_split.specs.Choices.{IsOnlyBy}
use Rattle.case_split.specs.Splits.{SameGate}
use Rattle.case_split.specs.Tables.{operand_at}

-- what stands for a signal in each case
abbrev pub leaves_of : List (List Operand) → Sig → List Operand
leaves_of tables s = map (λ table. operand_at table s) tables

-- there is a table for each case, and where the cube asks both values of a column all in it is 0
pub record AreStandingIn (net : Parts) (cases : List Case) (tables : List (List Operand)) : Type 0 where
  pub width : length tables ≡ length cases
  pub wide : All (λ table. length table ≡ count net) tables
  pub each : (i : ℕ) (c : Case) (d : List Operand) → i < length cases → IsCube (slice_index_or cases i c).cube.items ⊎ All (λ operand. operand ≡ Constant false) (slice_index_or tables i d)

abbrev pub IsWithinAny : ℕ → Option Operand → Type 0
IsWithinAny bound None = Unit {0}
IsWithinAny bound (Some operand) = IsWithin bound operand

-- what is chosen for a gate
pub record IsRoot (net : Parts) (cases : List Case) (tables : List (List Operand)) (more : List Gate) (n : ℕ) (root : Option Operand) : Type 0 where
  pub operand : Operand
  pub is : root ≡ Some operand
  pub under : (f : Sig → Trit) → Agrees f (count net) more → (i : ℕ) (d : Operand) → i < length cases → IsOnlyBy f cases i → Below (value_by f (slice_index_or (leaves_of tables (gate_sig net n)) i d)) (value_by f operand)

-- one more is chosen
pub record IsRootStep (net : Parts) (cases : List Case) (tables : List (List Operand)) (n : ℕ) (old new : List Gate) (operand : Operand) : Type 0 where
  pub is : IsRoot net cases tables new n (Some operand)
  pub within : IsWithin (count net + length new) operand
  pub more : IsMore old new (length cases)
  pub are : AreNew net new

-- what is chosen for these gates
pub record AreRoots (net : Parts) (cases : List Case) (tables : List (List Operand)) (gates : List ℕ) (old new : List Gate) (roots : List (Option Operand)) : Type 0 where
  pub width : length roots ≡ length net.gates
  pub each : All (λ n. IsRoot net cases tables new n (slice_index_or roots n None)) gates
  pub within : All (IsWithinAny (count net + length new)) roots
  pub more : IsMore old new (length gates * length cases)
  pub are : AreNew net new

abbrev pub row : List Lit → Row
row lits = record { lits = lits }

-- a constant, and a gate that is the same as a wire
abbrev pub constant_gate : List ℕ → Bool → Gate
constant_gate name value = record { name = name; pins = []; cover = record { pins = 0; plane = true; rows = if value then row [] ∷ [] else [] } }

abbrev pub same_gate : List ℕ → Sig → Gate
same_gate name wire = record { name = name; pins = wire ∷ []; cover = record { pins = 1; plane = true; rows = row (One ∷ []) ∷ [] } }

-- a gate that shows what is chosen
pub record IsShown (name : List ℕ) (root : Option Operand) (head : Gate) : Type 0 where
  pub named : head.name ≡ name
  pub shows : (f : Sig → Trit) (operand : Operand) → root ≡ Some operand → Below (value_by f operand) (ext head.cover (map f head.pins))
  pub counted : length head.pins ≡ head.cover.pins
  pub within : (bound : ℕ) → IsWithinAny bound root → All (λ s. s.0 < bound) head.pins

-- the head of a gate
pub record IsHead (net : Parts) (marks : List Bool) (root : Option Operand) (n : ℕ) (head : Gate) : Type 0 where
  pub named : head.name ≡ (gate_at net n).name
  pub kept : is_marked marks n ≡ false → SameGate head (gate_at net n)
  pub shown : is_marked marks n ≡ true → IsShown (gate_at net n).name root head

pub record AreHeads (net : Parts) (marks : List Bool) (roots : List (Option Operand)) (n : ℕ) (heads : List Gate) : Type 0 where
  pub width : length heads ≡ n
  pub each : (i : ℕ) → i < n → IsHead net marks (slice_index_or roots i None) i (slice_index_or heads i no_gate)
