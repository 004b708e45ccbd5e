-- The values of one tick.
use Rattle.std.specs.Prelude.{◌≡◌, List}
use Rattle.cyc_base.specs.declared.trit.Trit.{Trit}
use Rattle.netlist.specs.declared.parts.Parts.{Parts}
use Rattle.netlist.specs.Fixpoint.{fix, next, outs}
use Rattle.ternary_run.specs.declared.ticks.TickValues.{TickValues}

-- the values of all signals at the fixpoint, what the outputs show there, and what the latches load
pub record IsTickOf (net : Parts) (v : List Trit) (tick : TickValues) : Type 0 where
  pub wires : tick.wires ≡ fix net v
  pub outputs : tick.outputs ≡ outs net v
  pub next : tick.next ≡ next net v
