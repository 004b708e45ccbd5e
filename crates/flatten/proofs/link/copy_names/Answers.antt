use Rattle.std.proofs.Common.{◌<◌, length, arith}
use Rattle.std.proofs.lemmas.List.{take_all}
use Rattle.flatten.proofs.Names.{taken}
use Rattle.flatten.proofs.link.copy_names.Goals as goal

pub loop-name-preserved : goal.loop-name-preserved
loop-name-preserved c =
    let names = c.args.names.now in
    let i = c.loop-name.name-index in
    let inside : i < length names = omega arith in
    let more = taken names i c.name-item.result inside c.name-item.is in
    grind (arith, more)

pub returns : goal.returns
returns c = grind (arith, take_all c.loop-name.name-index c.args.names.now)
