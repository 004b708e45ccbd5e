-- A simulator, which keeps the values of all signals from vector to vector.
use Rattle.netlist.specs.declared.parts.Parts.{Parts}
use Rattle.simulation.specs.declared.simulator.Simulator.{Simulator}
use Rattle.simulation.specs.Plans.{IsPlanOf}
use Rattle.simulation.specs.Stability.{AreKept}

-- a simulator of this netlist, between two vectors
pub record IsSimulatorOf (net : Parts) (simulator : Simulator) : Type 0 where
  pub plan : IsPlanOf net simulator.plan
  pub wires : AreKept net simulator.plan.blocks simulator.wires.values.items simulator.wires.due.items
