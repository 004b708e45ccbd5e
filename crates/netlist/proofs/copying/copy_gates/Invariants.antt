use Rattle.std.proofs.Common.{◌≡◌, take}
use Rattle.netlist.proofs.copying.copy_gates.Given as goal

abbrev pub invariant-loop-number : goal.invariant-loop-number
invariant-loop-number l = l.gates.items ≡ take l.number l.net.gates
