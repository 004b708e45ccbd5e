use Rattle.std.proofs.Common.{arith}
use Rattle.equal.proofs.CompareLemmas.{early_known}
use Rattle.equal.proofs.least.refusal_within.Goals as goal

pub returns-in-Ok : goal.returns-in-Ok
returns-in-Ok c = grind (arith, early_known c.args.net.now c.args.care.now c.early_of.result c.judge-judged.result _ c.laws.ensures.valid c.in-Ok.is c.judge-judged.ensures.judgement c.early_of.ensures)
