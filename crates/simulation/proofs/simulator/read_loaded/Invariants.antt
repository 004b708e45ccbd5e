use Rattle.std.proofs.Common.{◌≡◌, ◌++◌, map, drop}
use Rattle.simulation.proofs.Common.{wire}
use Rattle.netlist.specs.Fixpoint.{loaded}
use Rattle.simulation.proofs.simulator.read_loaded.Given as goal

-- what is loaded so far, and then what the latches that are left load
abbrev pub invariant-loop-number : goal.invariant-loop-number
invariant-loop-number l = l.next.items ++ map (λ latch. wire l.values latch.from) (drop l.number l.net.latches) ≡ loaded l.net l.values
