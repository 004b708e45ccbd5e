use Rattle.components.proofs.PieceLemmas.{length-pieces}
use Rattle.components.proofs.graph.Graph.len.Goals as goal

pub returns : goal.returns
returns c = rw (← c.self.view_is, length-pieces, c.as_slice.ensures.value)
