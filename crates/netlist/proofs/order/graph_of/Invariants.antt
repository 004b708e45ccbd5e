use Rattle.std.proofs.Common.{◌≡◌, map, take}
use Rattle.netlist.specs.Orders.{gates_read}
use Rattle.netlist.proofs.order.graph_of.Given as goal

abbrev pub invariant-loop-gate : goal.invariant-loop-gate
invariant-loop-gate l = l.graph ≡ map (gates_read l.first) (take l.gate-index l.gates)
