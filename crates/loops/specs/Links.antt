-- Pins within loops.
use Rattle.std.specs.Prelude.{◌≡◌, ℕ, true}
use Rattle.cyc_base.specs.declared.sig.Sig.{Sig}
use Rattle.netlist.specs.declared.parts.Parts.{Parts}
use Rattle.netlist.specs.Netlists.{gate_sig}
use Rattle.netlist.specs.Walks.{Feeds}
use Rattle.loops.specs.declared.structure.Blocks.{Blocks}
use Rattle.loops.specs.Cuts.{in_one_loop}

-- gate a is a pin of gate b, and both are in one loop
pub record IsLoopPin (net : Parts) (blocks : Blocks) (a b : ℕ) : Type 0 where
  pub feeds : Feeds net a b
  pub loop : in_one_loop blocks a b ≡ true

-- the source of a pin of a gate, in the gate's loop
pub record IsLoopSource (net : Parts) (blocks : Blocks) (gate : ℕ) (pin : Sig) (a : ℕ) : Type 0 where
  pub is : pin ≡ gate_sig net a
  pub loop : in_one_loop blocks a gate ≡ true
