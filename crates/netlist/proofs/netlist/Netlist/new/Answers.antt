use Rattle.netlist.proofs.Validity.{netlist_without_fault}
use Rattle.netlist.proofs.netlist.Netlist.new.Goals as goal

pub invariant_of-result : goal.invariant_of-result
invariant_of-result c = (netlist_without_fault c.args.parts c.in_ok-names.ensures.no_fault, c.in_ok-names.ensures.names)

pub returns-clause-valid : goal.returns-clause-valid
returns-clause-valid c = netlist_without_fault c.args.parts c.in_ok-names.ensures.no_fault
