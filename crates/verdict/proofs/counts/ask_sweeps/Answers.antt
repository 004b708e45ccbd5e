use Rattle.verdict.proofs.counts.ask_sweeps.Goals as goal

pub ask_where_known-requires-clause-known : goal.ask_where_known-requires-clause-known
ask_where_known-requires-clause-known c = rw c.in-Nowhere.is at c.requires.unknown
