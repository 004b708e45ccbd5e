use Rattle.std.proofs.Common.{◌≡◌, map}
use Rattle.care_rows.specs.Models.{column_name, marked_below}
use Rattle.care_rows.proofs.kept.kept_inputs.Given as goal

abbrev pub invariant-loop-column : goal.invariant-loop-column
invariant-loop-column l = l.names.items ≡ map (column_name l.net) (marked_below l.used l.column)
