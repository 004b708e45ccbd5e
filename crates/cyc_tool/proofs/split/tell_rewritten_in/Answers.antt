use Rattle.cyc_tool.proofs.split.tell_rewritten_in.Goals as goal

pub returns-in-None : goal.returns-in-None
returns-in-None c = rw c.in-None.is c.tell_rewritten.ensures

pub returns-in-Some : goal.returns-in-Some
returns-in-Some c = rw c.in-Some.is c.tell_split.ensures
