use Rattle.std.proofs.Common.{arith}
use Rattle.flatten.proofs.Added.{added}
use Rattle.flatten.proofs.link.declare.Goals as goal

pub loop-name-preserved : goal.loop-name-preserved
loop-name-preserved c =
    let names = c.args.names.now in
    let i = c.loop-name.name-index in
    grind (arith, added c.loop-name.set.keys c.add_copy.new.set.keys names i c.name-item.result c.in_ok-add_copy.field-0)
