use Rattle.cyc_tool.proofs.decision.tell_graph.Goals as goal

pub tell_aiger-requires : goal.tell_aiger-requires
tell_aiger-requires c = rw c.in-Ok.is at c.requires

pub returns-in-Ok : goal.returns-in-Ok
returns-in-Ok c = rw c.in-Ok.is c.tell_aiger.ensures

pub returns-in-Err : goal.returns-in-Err
returns-in-Err c = rw c.in-Err.is c.tell_overfull.ensures
