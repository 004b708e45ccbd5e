use Rattle.plain_commands.proofs.telling.tell_stop.Goals as goal

pub returns-in-Memory-clause-told : goal.returns-in-Memory-clause-told
returns-in-Memory-clause-told g c = rw c.in-Memory.is c.tell.ensures.told
