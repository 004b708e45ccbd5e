use Rattle.std.proofs.Common.{arith}
use Rattle.bdd_store.proofs.MakeLemmas.{slice_get-position, Contains-read}
use Rattle.bdd_store.proofs.store.enter.Goals as goal

pub returns-in-Some-clause-at : goal.returns-in-Some-clause-at
returns-in-Some-clause-at c = slice_get-position c.args.entries.now.keys c.args.entry c.in-Some.at c.in-Some.ensures.index

pub returns-in-Some-clause-full : goal.returns-in-Some-clause-full
returns-in-Some-clause-full c =
    grind (arith, Contains-read c.args.entries.now.keys c.args.entry c.in-Some.at (slice_get-position c.args.entries.now.keys c.args.entry c.in-Some.at c.in-Some.ensures.index), slice_get-position c.args.entries.now.keys c.args.entry c.in-Some.at c.in-Some.ensures.index)
