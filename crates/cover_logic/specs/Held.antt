-- How a cover holds its rows.
use Rattle.std.specs.Prelude.{List}
use Rattle.cover_logic.specs.declared.row.Row.{Row}
use Rattle.cover_logic.specs.declared.held.Held.{Held as HeldRows}
use Rattle.cover_logic.specs.declared.held.Held.TheVariants.{Own, Common}

abbrev pub rows_of : HeldRows → List Row
rows_of (Own rows) = rows.items
rows_of (Common rows) = rows.value.items
