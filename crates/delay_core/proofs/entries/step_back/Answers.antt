use Rattle.std.proofs.Common.{arith}
use Rattle.delay_core.proofs.EntryLemmas.{value_step}
use Rattle.delay_core.proofs.entries.step_back.Goals as goal

pub returns-clause-same : goal.returns-clause-same
returns-clause-same c = grind (arith, value_step c.args.entries.now c.args.newest.now c.args.n c.args.i c.requires.linked c.requires.moment c.requires.entry c.requires.later)
