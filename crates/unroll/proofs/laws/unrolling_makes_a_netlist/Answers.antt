use Rattle.unroll.proofs.Telling.{unrolled_has_its_size, gates_stand_at_their_signals, unrolled_is_a_netlist, unrolled_keeps_interface}
use Rattle.unroll.proofs.laws.unrolling_makes_a_netlist.Goals as goal

pub returns-clause-size : goal.returns-clause-size
returns-clause-size c = unrolled_has_its_size

pub returns-clause-places : goal.returns-clause-places
returns-clause-places c = gates_stand_at_their_signals

pub returns-clause-netlist : goal.returns-clause-netlist
returns-clause-netlist c = unrolled_is_a_netlist

pub returns-clause-interface : goal.returns-clause-interface
returns-clause-interface c = unrolled_keeps_interface
