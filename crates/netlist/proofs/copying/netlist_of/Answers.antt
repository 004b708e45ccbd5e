use Rattle.std.proofs.Common.{arith}
use Rattle.netlist.proofs.Validity.{no_fault_of_netlist}
use Rattle.netlist.proofs.copying.netlist_of.Goals as goal

pub want_of_memory-requires : goal.want_of_memory-requires
want_of_memory-requires c = grind (arith, no_fault_of_netlist _ c.requires)
