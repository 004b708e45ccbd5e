use Rattle.std.proofs.Common.{◌≡◌, take}
use Rattle.netlist.proofs.copying.copy_inputs.Given as goal

abbrev pub invariant-loop-number : goal.invariant-loop-number
invariant-loop-number l = l.names.items ≡ take l.number l.net.inputs
