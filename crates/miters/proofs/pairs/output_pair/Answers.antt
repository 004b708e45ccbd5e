use Rattle.std.proofs.Common.{arith}
use Rattle.miters.proofs.MatchLemmas.{named}
use Rattle.miters.proofs.pairs.output_pair.Goals as goal

pub returns : goal.returns
returns c = grind (arith, named c.args.a.now c.args.output c.name_of.result.now c.name_of.ensures.name)
