-- The blocks of the signal's readers are due, and the others stay stable.
use Rattle.std.proofs.Common.{◌≡◌, length, arith}
use Rattle.std.proofs.lemmas.List.{with_items_is}
use Rattle.simulation.proofs.Common.{readers_of}
use Rattle.simulation.proofs.MarkingLemmas.{changed, marked_from}
use Rattle.simulation.proofs.wires.Wires.change.Goals as goal

pub returns-clause-kept : goal.returns-clause-kept
returns-clause-kept c =
    let net = c.args.net.now in
    let plan = c.args.plan.now in
    let values = c.args.self.now.values.items in
    let due = c.args.self.now.due in
    let gates = readers_of plan.readers c.args.signal in
    let marked = marked_from gates c.successors-readers.result.now plan.blocks.home c.items.result.now due.items c.deref_mut.result.now c.mark.new.due c.successors-readers.ensures c.items.ensures c.deref_mut.ensures.value c.mark.ensures in
    let size : length c.mark.new.due ≡ due.len = omega (arith, marked.size, due.ok.0) in
    grind (arith, with_items_is due c.mark.new.due size, changed net plan.blocks plan.readers values due.items c.mark.new.due c.args.signal c.args.value c.requires.plan.readers c.requires.kept c.requires.due marked)
