use Rattle.cyc_tool.proofs.decision.tell_overfull.Goals as goal

pub returns-in-TooLarge : goal.returns-in-TooLarge
returns-in-TooLarge c = rw c.in-TooLarge.is c.tell_too_large.ensures
