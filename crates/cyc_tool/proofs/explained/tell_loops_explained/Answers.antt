use Rattle.cyc_tool.proofs.explained.tell_loops_explained.Goals as goal

pub returns-in-Lines : goal.returns-in-Lines
returns-in-Lines c = rw c.in-Lines.is c.list_loops.ensures

pub returns-in-Dot : goal.returns-in-Dot
returns-in-Dot c = rw c.in-Dot.is c.draw_loops.ensures
