-- The refusal of a gate that is unknown on care, found on cones.
use Rattle.std.specs.Prelude.{◌≡◌, ◌≤◌, ℕ, Bool, true, List, length}
use Rattle.netlist.specs.Netlists.{is_marked}
use Rattle.netlist.specs.declared.parts.Parts.{Parts}
use Rattle.loops.specs.declared.structure.Blocks.{Blocks}
use Rattle.loops.specs.Walks.{IsUpstream}
use Rattle.verdict.specs.Determination.{IsOpen}

-- the gate is observed, and none after the last that is asked for
pub record IsAskedFor (observed : List Bool) (last n : ℕ) : Type 0 where
  pub seen : is_marked observed n ≡ true
  pub early : n ≤ last

-- the gate is in a loop at a place without a mark, or in the fanout of one
pub record IsFedByOpen (net : Parts) (blocks : Blocks) (settled : List Bool) (n : ℕ) : Type 0 where
  pub gate : ℕ
  pub opened : IsOpen net blocks settled gate
  pub upstream : IsUpstream net gate n

-- those among the gates asked for are marked, and no others
pub record AreAskedCandidates (net : Parts) (blocks : Blocks) (settled observed : List Bool) (last : ℕ) (marks : List Bool) : Type 0 where
  pub width : length marks ≡ length net.gates
  pub each : (n : ℕ) → IsAskedFor observed last n → IsFedByOpen net blocks settled n → is_marked marks n ≡ true
  pub only : (n : ℕ) → is_marked marks n ≡ true → IsAskedFor observed last n
