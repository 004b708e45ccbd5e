use Rattle.std.proofs.Common.{arith}
use Rattle.explanations.proofs.NeedLemmas.{all_needed, unknown_below}
use Rattle.explanations.proofs.needs.needs.Goals as goal

pub hold-requires-clause-kept : goal.hold-requires-clause-kept
hold-requires-clause-kept c = grind (arith, unknown_below c.args.vector.now)

pub returns-clause-needed : goal.returns-clause-needed
returns-clause-needed c = grind (arith, all_needed c.args.net.now c.args.vector.now c.args.gates.now)

pub returns-clause-holding : goal.returns-clause-holding
returns-clause-holding c = grind arith
