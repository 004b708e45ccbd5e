-- The netlist that is made: the columns, a head for each gate, and the copies behind them.
use Rattle.std.specs.Prelude.{◌≡◌, ◌++◌, List}
use Rattle.netlist.specs.Netlists.{with_gates}
use Rattle.netlist.specs.declared.parts.Gate.{Gate}
use Rattle.netlist.specs.declared.parts.Parts.{Parts}

abbrev pub split_by : Parts → List Gate → List Gate → Parts
split_by net heads more = with_gates net (heads ++ more) net.outputs

-- a gate keeps its cover and its pins
pub record SameGate (a b : Gate) : Type 0 where
  pub cover : a.cover ≡ b.cover
  pub pins : a.pins ≡ b.pins
