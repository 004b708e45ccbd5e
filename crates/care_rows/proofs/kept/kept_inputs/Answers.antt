use Rattle.std.proofs.Common.{arith}
use Rattle.care_rows.specs.Models.{column_name}
use Rattle.care_rows.proofs.ColumnLemmas.{listed_more}
use Rattle.care_rows.proofs.kept.kept_inputs.Goals as goal

pub loop-column-preserved : goal.loop-column-preserved
loop-column-preserved c = grind (arith, listed_more (column_name c.args.net.now) c.args.used.now c.loop-column.column)
