-- One gate more is among the readers of its pins.
use Rattle.std.proofs.Common.{arith}
use Rattle.std.proofs.lemmas.List.{with_items_is}
use Rattle.simulation.proofs.ReaderLemmas.{readers_more, readers_all}
use Rattle.simulation.proofs.readers.lists_of.Goals as goal

pub loop-number-preserved : goal.loop-number-preserved
loop-number-preserved c =
    let net = c.args.net.now in
    let k = c.loop-number.number in
    let lists = c.loop-number.lists in
    let pins = c.items.result.now in
    let new = c.add_gate.new.lists in
    grind (arith, with_items_is lists new, readers_more net k pins lists.items new)

pub returns-clause-readers : goal.returns-clause-readers
returns-clause-readers c = grind (arith, readers_all c.args.net.now c.loop-number.lists.items)
