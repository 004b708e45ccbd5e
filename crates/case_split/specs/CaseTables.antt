-- The tables of all cases.
use Rattle.std.specs.Prelude.{◌≡◌, ◌⊎◌, ◌+◌, ◌*◌, ◌<◌, ℕ, Bool, false, List, length, All, slice_index_or}
use Rattle.cyc_base.specs.declared.trit.Trit.{Trit}
use Rattle.cyc_base.specs.Values.{EachBelow}
use Rattle.netlist.specs.declared.parts.Gate.{Gate}
use Rattle.netlist.specs.declared.parts.Parts.{Parts}
use Rattle.netlist.specs.Fixpoint.{fix}
use Rattle.netlist.specs.Netlists.{count, is_marked}
use Rattle.loops.specs.Sweeps.{first_gate}
use Rattle.case_split.specs.declared.cases.Case.{Case}
use Rattle.case_split.specs.declared.operands.Operand.{Operand}
use Rattle.case_split.specs.declared.operands.Operand.TheVariants.{Constant}
use Rattle.case_split.specs.Cases.{IsInCase}
use Rattle.case_split.specs.Cubes.{IsCube}
use Rattle.case_split.specs.Operands.{IsWithin}
use Rattle.case_split.specs.Added.{AreNew, IsMore}
use Rattle.case_split.specs.Sizes.{copied_gates}
use Rattle.case_split.specs.Tables.{IsTable}

-- what is known in the case is below each vector of it
abbrev pub IsBelowCase : Parts → Case → List Trit → Type 0
IsBelowCase net case given = (v : List Trit) → length v ≡ first_gate net → IsInCase v case → EachBelow given v

-- the table of a case whose cube a vector may have
pub record IsPossible (net : Parts) (marks : List Bool) (case : Case) (more : List Gate) (table : List Operand) : Type 0 where
  pub cube : IsCube case.cube.items
  pub given : List Trit
  pub below : IsBelowCase net case given
  pub is : IsTable net (is_marked marks) (fix net given) (count net) more table

-- that of another one
pub record IsImpossible (case : Case) (table : List Operand) : Type 0 where
  pub not_cube : IsCube case.cube.items → ⊥
  pub all : All (λ operand. operand ≡ Constant false) table

abbrev pub IsCaseTable : Parts → List Bool → Case → List Gate → List Operand → Type 0
IsCaseTable net marks case more table = IsPossible net marks case more table ⊎ IsImpossible case table

-- one more table
pub record IsTableStep (net : Parts) (marks : List Bool) (given : List Trit) (old new : List Gate) (table : List Operand) : Type 0 where
  pub is : IsTable net (is_marked marks) (fix net given) (count net) new table
  pub within : All (IsWithin (count net + length new)) table
  pub more : IsMore old new (length (copied_gates net marks))
  pub are : AreNew net new

-- one more table of a case
pub record IsEntry (net : Parts) (marks : List Bool) (case : Case) (old new : List Gate) (table : List Operand) : Type 0 where
  pub is : IsCaseTable net marks case new table
  pub width : length table ≡ count net
  pub within : All (IsWithin (count net + length new)) table
  pub more : IsMore old new (length (copied_gates net marks))
  pub are : AreNew net new

-- the tables of the first so many cases
pub record AreTables (net : Parts) (marks : List Bool) (cases : List Case) (n : ℕ) (old new : List Gate) (tables : List (List Operand)) : Type 0 where
  pub width : length tables ≡ n
  pub each : (i : ℕ) (c : Case) (d : List Operand) → i < n → IsCaseTable net marks (slice_index_or cases i c) new (slice_index_or tables i d)
  pub wide : All (λ table. length table ≡ count net) tables
  pub within : All (All (IsWithin (count net + length new))) tables
  pub more : IsMore old new (n * length (copied_gates net marks))
  pub are : AreNew net new
