use Rattle.std.proofs.Common.{◌<◌, arith}
use Rattle.miters.proofs.Common.{columns, column_named}
use Rattle.miters.proofs.MatchLemmas.{column_taken}
use Rattle.miters.proofs.pairs.find_columns.Goals as goal

pub loop-number-preserved : goal.loop-number-preserved
loop-number-preserved c =
    let l : c.loop-number.number < columns c.args.b.now = omega arith in
    grind (arith, column_taken c.args.b.now (column_named c.args.a.now) c.loop-number.number c.name_of.result.now l c.name_of.ensures.name)
