use Rattle.std.proofs.Common.{arith}
use Rattle.care_rows.specs.Models.{kept_gate}
use Rattle.care_rows.proofs.ColumnLemmas.{listed_more}
use Rattle.care_rows.proofs.kept.kept_gates.Goals as goal

pub loop-number-preserved : goal.loop-number-preserved
loop-number-preserved c = grind (arith, listed_more (kept_gate c.args.net.now c.args.places.now) c.args.cone.now c.loop-number.number)
