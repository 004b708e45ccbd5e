use Rattle.std.proofs.Common.{◌≡◌, ◌++◌, take}
use Rattle.netlist.specs.Orders.{numbers_from}
use Rattle.netlist.proofs.order.add_gates_read.Given as goal

abbrev pub invariant-loop-pin : goal.invariant-loop-pin
invariant-loop-pin l = l.reads.items ≡ l.initial.reads.items ++ numbers_from l.first (take l.pin-index l.pins)
