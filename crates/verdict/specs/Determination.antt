-- Netlists whose gates are all determined on care, and the gates that decide whether they are.
use Rattle.std.specs.Prelude.{◌≡◌, ◌≢◌, ◌<◌, ℕ, Bool, false, List, length}
use Rattle.cyc_base.specs.declared.trit.Trit.TheVariants.{X}
use Rattle.cyc_base.specs.Values.{bits}
use Rattle.netlist.specs.Netlists.{is_marked}
use Rattle.netlist.specs.declared.parts.Parts.{Parts}
use Rattle.netlist.specs.Fixpoint.{fix_gates}
use Rattle.loops.specs.declared.structure.Blocks.{Blocks}
use Rattle.loops.specs.Blocks.{home_of}
use Rattle.loops.specs.Sweeps.{value_in}
use Rattle.isolation.specs.Laws.{IsLooped}
use Rattle.care_sets.specs.Care.{CareSet, IsCareVector}

-- no gate of the kind is X in the fixpoint of a care vector
abbrev pub AreDeterminedOnCare : Parts → CareSet → (ℕ → Type 0) → Type 0
AreDeterminedOnCare net care Kind = (v : List Bool) → IsCareVector net care v → (n : ℕ) → Kind n → value_in (fix_gates net (bits v)) n ≢ X

abbrev pub IsGate : Parts → ℕ → Type 0
IsGate net n = n < length net.gates

-- a gate of a loop at a place without a mark
pub record IsOpen (net : Parts) (blocks : Blocks) (settled : List Bool) (n : ℕ) : Type 0 where
  pub within : IsGate net n
  pub looped : IsLooped blocks n
  pub unsettled : is_marked settled (home_of blocks n) ≡ false
