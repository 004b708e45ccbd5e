use Rattle.std.proofs.Common.{arith}
use Rattle.loops.proofs.Common.{get_or_default}
use Rattle.loops.proofs.OrderLemmas.{block_gates, gates_within}
use Rattle.inner_pairs.proofs.hints.alike_hints.Goals as goal

pub add_all_alike-requires-clause-gates : goal.add_all_alike-requires-clause-gates
add_all_alike-requires-clause-gates c =
    let blocks = c.in_ok-blocks.blocks in
    grind (arith, block_gates blocks c.items-list.result.now c.items-gates.result.now c.loop-place.place c.index-list-place.result, gates_within c.args.b.now blocks c.in_ok-blocks.ensures c.loop-place.place, get_or_default)
