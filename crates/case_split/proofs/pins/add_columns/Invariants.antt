use Rattle.std.proofs.Common.{take}
use Rattle.case_split.specs.Pins.{column_pins, AddsPins}
use Rattle.case_split.proofs.pins.add_columns.Given as goal

abbrev pub invariant-loop-literal : goal.invariant-loop-literal
invariant-loop-literal l = AddsPins (column_pins (take l.literal-index l.cube)) l.fn.pins.items l.pins.items
