use Rattle.std.proofs.Common.{◌+◌, take, arith}
use Rattle.flatten.proofs.Common.{flat_map, item_names}
use Rattle.cyc_base.proofs.TildeLemmas.{max_is}
use Rattle.flatten.proofs.Marks.{longest_items, longest_model}
use Rattle.flatten.proofs.mark.longest_in_model.Goals as goal

pub loop-item-preserved : goal.loop-item-preserved
loop-item-preserved c =
    let model = c.args.model.now in
    let body = c.items-item-items.result.now in
    let i = c.loop-item.item-index in
    grind (arith, longest_items body i c.item-item.result, longest_model model.inputs model.outputs model.clocks (flat_map item_names (take i body)), longest_model model.inputs model.outputs model.clocks (flat_map item_names (take (i + 1) body)), max_is c.loop-item.longest c.longest_in_item.result)
