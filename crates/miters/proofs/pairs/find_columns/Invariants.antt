use Rattle.std.proofs.Common.{◌≡◌, map, take}
use Rattle.miters.proofs.Common.{column_names, column_named}
use Rattle.miters.proofs.pairs.find_columns.Given as goal

abbrev pub invariant-loop-number : goal.invariant-loop-number
invariant-loop-number l = l.columns.items ≡ map (column_named l.a) (take l.number (column_names l.b))
