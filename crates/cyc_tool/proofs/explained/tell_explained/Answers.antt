use Rattle.cyc_tool.proofs.explained.tell_explained.Goals as goal

pub returns-in-Undetermined : goal.returns-in-Undetermined
returns-in-Undetermined c = rw (← c.refusal-refusal.ensures.refusal, c.in-Undetermined.is, ← c.items.ensures) (rw (c.looped.ensures.looped, c.problem.ensures.problem) at c.tell_wire.ensures)
