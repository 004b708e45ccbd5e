-- The least care vector on which the wires of some pair differ.
use Rattle.std.specs.Prelude.{Bool, List, find}
use Rattle.std.specs.declared.option.Option.{Option}
use Rattle.netlist.specs.declared.parts.Parts.{Parts}
use Rattle.care_sets.specs.Care.{CareSet}
use Rattle.refusals.specs.Refusals.{care_vectors}
use Rattle.netlist.specs.declared.pair.Pair.{Pair}
use Rattle.netlist.specs.Pairs.{some_is_apart}

-- the least care vector on which those of some pair are apart
abbrev pub least_apart : Parts → CareSet → List Pair → Option (List Bool)
least_apart net care pairs = find (some_is_apart net pairs) (care_vectors net care)
