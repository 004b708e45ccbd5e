use Rattle.std.proofs.Common.{arith}
use Rattle.explanations.proofs.MatterLemmas.{no_row_shows}
use Rattle.explanations.proofs.matters.matters.Goals as goal

pub returns : goal.returns
returns c = grind (arith, no_row_shows c.args.cover.now c.args.trits.now c.args.pin)
