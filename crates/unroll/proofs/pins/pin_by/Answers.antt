use Rattle.std.proofs.Common.{sym, ◌∙◌, arith}
use Rattle.unroll.proofs.Common.{gate_of, in_loop_of, looped_in, loops_in, net_of, at_table, moved, IsLooped}
use Rattle.unroll.proofs.PinLemmas.{cut_by_blocks, source_by_blocks, read_some, read_none}
use Rattle.unroll.proofs.pins.pin_by.Goals as goal

pub returns-in-Some : goal.returns-in-Some
returns-in-Some c =
    let looped = looped_in c.args.plan.now.counted.now in
    let is : IsLooped looped = record { blocks = c.looped-looped.ensures.is.blocks; cut = c.looped-looped.ensures.is.cut } in
    let net = net_of c.args.plan.now in
    let loops = loops_in c.args.plan.now in
    let s = c.args.pin in
    let source = source_by_blocks looped is c.args.gate s c.source_in_loop.result (rw c.looped-looped.ensures.looped at c.source_in_loop.ensures.source) in
    let told = cut_by_blocks looped c.looped-looped.result.now c.looped-looped.ensures.looped is c.in-Some.source c.is_cut.result c.is_cut.ensures in
    grind (arith, read_some (in_loop_of net loops c.args.gate s) (gate_of net s) c.in-Some.source loops.cut (at_table c.args.tables.now.earlier.items) (at_table c.args.tables.now.current.items) (moved net c.args.plan.now.by s))

pub returns-in-None : goal.returns-in-None
returns-in-None c =
    let looped = looped_in c.args.plan.now.counted.now in
    let is : IsLooped looped = record { blocks = c.looped-looped.ensures.is.blocks; cut = c.looped-looped.ensures.is.cut } in
    let net = net_of c.args.plan.now in
    let loops = loops_in c.args.plan.now in
    let s = c.args.pin in
    let source = source_by_blocks looped is c.args.gate s c.source_in_loop.result (rw c.looped-looped.ensures.looped at c.source_in_loop.ensures.source) in
    rw (c.net.ensures.net, c.looped-looped.ensures.looped) at c.moved.ensures
    ∙ read_none (in_loop_of net loops c.args.gate s) (gate_of net s) loops.cut (at_table c.args.tables.now.earlier.items) (at_table c.args.tables.now.current.items)
    (moved net c.args.plan.now.by s) (sym c.in-None.is ∙ source)
