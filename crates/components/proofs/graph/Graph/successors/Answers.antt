use Rattle.std.proofs.Common.{arith}
use Rattle.components.proofs.PieceLemmas.{length-pieces}
use Rattle.components.proofs.graph.Graph.successors.Goals as goal

pub piece-requires-clause-within : goal.piece-requires-clause-within
piece-requires-clause-within c = grind (arith, length-pieces)
