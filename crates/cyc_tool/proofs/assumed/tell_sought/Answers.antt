use Rattle.cyc_tool.proofs.assumed.tell_sought.Goals as goal

pub returns : goal.returns
returns c = rw (c.new-problem.ensures, c.looped-looped.ensures.looped, c.in_ok-loops.ensures) at c.tell_sought_in.ensures
