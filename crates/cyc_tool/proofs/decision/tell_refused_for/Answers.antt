use Rattle.cyc_tool.proofs.decision.tell_refused_for.Goals as goal

pub returns-in-Judge : goal.returns-in-Judge
returns-in-Judge c = rw c.in-Judge.is (rw (c.net-net.ensures.net, c.refusal-refusal.ensures.refusal) at c.tell_refused.ensures)

pub returns-in-Storm : goal.returns-in-Storm
returns-in-Storm c = rw c.in-Storm.is (rw (c.net-net.ensures.net, c.refusal-refusal.ensures.refusal) at c.tell_storm.ensures)
