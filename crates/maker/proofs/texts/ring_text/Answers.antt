use Rattle.std.proofs.Common.{arith}
use Rattle.maker.proofs.CellLemmas.{ring_put}
use Rattle.maker.proofs.texts.ring_text.Goals as goal

pub returns : goal.returns
returns c = grind (arith, ring_put c.args.n)
