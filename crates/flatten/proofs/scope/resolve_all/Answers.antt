use Rattle.std.proofs.Common.{arith}
use Rattle.std.proofs.lemmas.List.{map_more, take_all}
use Rattle.flatten.proofs.Common.{resolved}
use Rattle.flatten.proofs.scope.resolve_all.Goals as goal

pub loop-name-preserved : goal.loop-name-preserved
loop-name-preserved c =
    let names = c.args.names.now in
    let print = resolved c.args.scope.now.prefix c.args.scope.now.table.entries in
    grind (arith, map_more print names c.loop-name.name-index c.name-item.result)

pub returns : goal.returns
returns c = grind (arith, take_all c.loop-name.name-index c.args.names.now)
