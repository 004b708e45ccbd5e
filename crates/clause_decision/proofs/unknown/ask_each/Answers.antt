use Rattle.std.proofs.Common.{arith}
use Rattle.clause_decision.proofs.unknown.ask_each.Goals as goal

pub returns : goal.returns
returns c = grind arith
