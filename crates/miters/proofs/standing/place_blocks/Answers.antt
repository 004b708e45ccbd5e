use Rattle.std.proofs.Common.{arith}
use Rattle.loops.proofs.Common.{get_or_default}
use Rattle.loops.proofs.OrderLemmas.{block_gates, gates_within}
use Rattle.miters.proofs.standing.place_blocks.Goals as goal

pub place_block-requires : goal.place_block-requires
place_block-requires c =
    let blocks = c.args.blocks.now in
    grind (arith, block_gates blocks c.items-list.result.now c.items-gates.result.now c.loop-at.at c.index-list-at.result, gates_within c.args.b.now blocks c.requires c.loop-at.at, get_or_default)
