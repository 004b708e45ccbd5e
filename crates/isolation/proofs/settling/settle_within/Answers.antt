use Rattle.isolation.proofs.UnknownLemmas.{unknown-or}
use Rattle.isolation.proofs.settling.settle_within.Goals as goal

pub returns-in-Ok-clause-unknown : goal.returns-in-Ok-clause-unknown
returns-in-Ok-clause-unknown c = unknown-or c.args.net.now c.args.budget c.in-Ok.found c.in-Ok.ensures.unknown
