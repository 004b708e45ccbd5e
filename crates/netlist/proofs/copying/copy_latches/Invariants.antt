use Rattle.std.proofs.Common.{◌≡◌, take}
use Rattle.netlist.proofs.copying.copy_latches.Given as goal

abbrev pub invariant-loop-number : goal.invariant-loop-number
invariant-loop-number l = l.latches.items ≡ take l.number l.net.latches
