use Rattle.std.proofs.Common.{arith}
use Rattle.explanations.proofs.NeedLemmas.{further_added}
use Rattle.explanations.proofs.needs.further_needs.Goals as goal

pub returns : goal.returns
returns c = grind (arith, further_added c.args.net.now c.args.vector.now c.args.gates.now c.args.needs.now)
