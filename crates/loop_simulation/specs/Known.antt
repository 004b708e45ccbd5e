-- Gates that are known at some care vector.
use Rattle.std.specs.Prelude.{◌≡◌, ◌≢◌, ℕ, Bool, true, List, length}
use Rattle.cyc_base.specs.declared.trit.Trit.TheVariants.{X}
use Rattle.cyc_base.specs.Values.{bits}
use Rattle.netlist.specs.declared.parts.Parts.{Parts}
use Rattle.netlist.specs.Fixpoint.{fix_gates}
use Rattle.netlist.specs.Netlists.{is_marked}
use Rattle.loops.specs.Sweeps.{value_in}
use Rattle.care_sets.specs.Care.{CareSet, IsCareVector}

-- a care vector at which the gate is known
pub record IsKnownSomewhere (net : Parts) (care : CareSet) (n : ℕ) : Type 0 where
  pub vector : List Bool
  pub counts : IsCareVector net care vector
  pub known : value_in (fix_gates net (bits vector)) n ≢ X

-- a mark for each gate: those that have one are known somewhere
pub record AreKnownSomewhere (net : Parts) (care : CareSet) (marks : List Bool) : Type 0 where
  pub width : length marks ≡ length net.gates
  pub each : (n : ℕ) → is_marked marks n ≡ true → IsKnownSomewhere net care n
