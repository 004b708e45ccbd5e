use Rattle.cyc_tool.proofs.decision.tell_decision.Goals as goal

pub returns-in-Tell : goal.returns-in-Tell
returns-in-Tell c = rw c.in-Tell.is (rw (c.new-problem.ensures, c.looped-looped.ensures.looped, c.in_ok-loops.ensures) at c.tell_judged.ensures)

pub returns : goal.returns
returns c = rw c.in-Make.is (rw (c.new-problem.ensures, c.looped-looped.ensures.looped, c.in_ok-loops.ensures) at c.tell_decided.ensures)
