use Rattle.std.proofs.Common.{◌∙◌, arith}
use Rattle.loops.proofs.BlockLemmas.{grouped_none, length-grouped, grouped_more}
use Rattle.loops.proofs.blocks.grouped.Goals as goal

pub loop-gate-init : goal.loop-gate-init
loop-gate-init c = c.in_ok-lists.ensures ∙ grouped_none c.args.homes.now c.args.count

pub index_mut-requires : goal.index_mut-requires
index_mut-requires c = grind (arith, length-grouped)

pub loop-gate-preserved : goal.loop-gate-preserved
loop-gate-preserved c = grind (arith, grouped_more)
