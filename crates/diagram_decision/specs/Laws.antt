-- Each decision has a width.
use Rattle.std.specs.Prelude.{◌^◌}
use Rattle.netlist.specs.Netlists.{columns}
use Rattle.dual_rail.specs.WorkingLists.{IsWide}
use Rattle.netlist.specs.declared.parts.Parts.{Parts}
use Rattle.care_sets.specs.Care.{CareSet}
use Rattle.diagram_decision.specs.Enough.{IsLaid}

-- two to the power of the number of columns is one, so that `enough` is a number for each netlist and care set
abbrev pub DecisionsHaveWidths : Type 0
DecisionsHaveWidths = (net : Parts) (care : CareSet) → IsWide (columns net) (IsLaid net care) (2 ^ columns net)
