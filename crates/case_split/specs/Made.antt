-- The netlist that is made of the heads and the copies.
use Rattle.std.specs.Prelude.{◌≡◌, ◌+◌, ◌*◌, ◌++◌, ◌≤◌, Bool, List, [], length, Option}
use Rattle.cyc_base.specs.declared.trit.Trit.{Trit}
use Rattle.netlist.specs.declared.parts.Gate.{Gate}
use Rattle.netlist.specs.declared.parts.Parts.{Parts}
use Rattle.netlist.specs.Netlists.{IsNetlist}
use Rattle.loops.specs.Sweeps.{first_gate}
use Rattle.unroll.specs.Laws.{KeepsInterface, TellsAsMuchAt}
use Rattle.case_split.specs.declared.cases.Case.{Case}
use Rattle.case_split.specs.declared.operands.Operand.{Operand}
use Rattle.case_split.specs.Cases.{IsInOneCase}
use Rattle.case_split.specs.CaseTables.{AreTables}
use Rattle.case_split.specs.Heads.{AreHeads, AreRoots}
use Rattle.case_split.specs.Sizes.{copied_gates}

-- how the heads and the copies came about: from tables of all cases, and what is chosen by them
pub record AreSplitParts (net : Parts) (marks : List Bool) (cases : List Case) (heads more : List Gate) : Type 0 where
  pub tables : List (List Operand)
  pub first : List Gate
  pub are : AreTables net marks cases (length cases) [] first tables
  pub roots : List (Option Operand)
  pub chosen : AreRoots net cases tables (copied_gates net marks) first more roots
  pub heads_are : AreHeads net marks roots (length net.gates) heads

-- all gates
pub record IsSplit (net : Parts) (marks : List Bool) (cases : List Case) (gates : List Gate) : Type 0 where
  pub heads : List Gate
  pub more : List Gate
  pub is : gates ≡ heads ++ more
  pub parts : AreSplitParts net marks cases heads more

-- what is made of a netlist
pub record IsSplitNetlist (net : Parts) (marks : List Bool) (cases : List Case) (other : Parts) : Type 0 where
  pub valid : IsNetlist other
  pub interface : KeepsInterface net other
  pub size : length other.gates + length other.latches ≤ length net.gates + length net.latches + 2 * (length cases * length (copied_gates net marks))
  pub tells : (v : List Trit) → length v ≡ first_gate net → IsInOneCase cases v → TellsAsMuchAt net other v
