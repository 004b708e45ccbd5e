-- Marks of gates.
use Rattle.std.specs.Prelude.{◌≡◌, ℕ, Bool, List, length}
use Rattle.netlist.specs.Netlists.{is_marked}
use Rattle.netlist.specs.declared.parts.Parts.{Parts}
use Rattle.dot_text.specs.ExplanationGraphs.{is_one_of}

-- just these gates are marked
pub record AreMarksOf (net : Parts) (gates : List ℕ) (marks : List Bool) : Type 0 where
  pub width : length marks ≡ length net.gates
  pub each : (n : ℕ) → is_marked marks n ≡ is_one_of gates n
