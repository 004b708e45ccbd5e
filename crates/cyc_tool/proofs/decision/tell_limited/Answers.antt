use Rattle.cyc_tool.proofs.decision.tell_limited.Goals as goal

pub returns-in-NodeLimit : goal.returns-in-NodeLimit
returns-in-NodeLimit c = rw c.in-NodeLimit.is c.tell_limit.ensures
