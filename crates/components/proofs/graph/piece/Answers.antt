use Rattle.std.proofs.Common.{sym, arith}
use Rattle.components.proofs.PieceLemmas.{EndAt-at, pieces-at}
use Rattle.components.proofs.graph.piece.Goals as goal

pub part-requires-clause-rises : goal.part-requires-clause-rises
part-requires-clause-rises c = grind (arith, EndAt-at)

pub part-requires-clause-within : goal.part-requires-clause-within
part-requires-clause-within c = grind (arith, EndAt-at)

pub returns : goal.returns
returns c = rw (c.part.ensures, c.start_of.ensures) (sym (pieces-at 0 c.args.ends.now c.args.targets.now c.args.node c.requires.within))
