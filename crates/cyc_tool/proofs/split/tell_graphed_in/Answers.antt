use Rattle.cyc_tool.proofs.split.tell_graphed_in.Goals as goal

pub returns-in-None : goal.returns-in-None
returns-in-None c = rw c.in-None.is c.tell_graphed.ensures

pub returns-in-Some : goal.returns-in-Some
returns-in-Some c = rw c.in-Some.is c.tell_split_graph.ensures
