use Rattle.cyc_tool.proofs.compared.tell_unfinished.Goals as goal

pub returns-in-NodeLimit : goal.returns-in-NodeLimit
returns-in-NodeLimit c = rw c.in-NodeLimit.is c.tell_limit.ensures
