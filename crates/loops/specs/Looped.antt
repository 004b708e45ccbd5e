-- A netlist with its blocks, and with its cut wires too.
use Rattle.netlist.specs.declared.parts.Parts.{Parts}
use Rattle.loops.specs.declared.structure.Blocks.{Blocks}
use Rattle.loops.specs.declared.structure.Cut.{Cut}
use Rattle.loops.specs.Blocks.{AreBlocksOf}
use Rattle.loops.specs.Cuts.{IsCutOf}

-- a netlist and its blocks
pub record Grouped : Type 0 where
  pub net : Parts
  pub blocks : Blocks

pub record Looped : Type 0 where
  pub net : Parts
  pub blocks : Blocks
  pub cut : Cut

-- they are the netlist's own
pub record IsLooped (l : Looped) : Type 0 where
  pub blocks : AreBlocksOf l.net l.blocks
  pub cut : IsCutOf l.net l.cut
