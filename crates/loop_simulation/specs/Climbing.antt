-- Care vectors at which a loop needs many sweeps.
use Rattle.std.specs.Prelude.{◌<◌, ℕ, List, Contains}
use Rattle.netlist.specs.declared.parts.Parts.{Parts}
use Rattle.loops.specs.Cuts.{Loops}
use Rattle.care_sets.specs.Care.{CareSet, IsCareVector}
use Rattle.loop_simulation.specs.declared.climbing.Witness.{Witness}
use Rattle.loop_simulation.specs.Simulations.{IsCountAt}
use Rattle.loop_simulation.specs.Sweeping.{NeedsMore}

-- for each number of sweeps below m some care vector needs more in the loop of these gates
abbrev pub NeedAtLeast : Parts → Loops → CareSet → List ℕ → ℕ → Type 0
NeedAtLeast net loops care gates m = (a j : ℕ) → Contains gates a → j < m → NeedsMore net loops care a j

-- a care vector, and how many sweeps the loop of these gates needs there
pub record IsWitness (net : Parts) (loops : Loops) (care : CareSet) (gates : List ℕ) (w : Witness) : Type 0 where
  pub counts : IsCareVector net care w.vector.items
  pub is : IsCountAt net loops w.vector.items gates w.count.sweeps
