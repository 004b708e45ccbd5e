-- A netlist that is split by cases, and stands in the place of another.
use Rattle.netlist.specs.declared.parts.Parts.{Parts}
use Rattle.netlist.specs.Netlists.{IsNetlist}
use Rattle.care_sets.specs.Care.{CareSet}
use Rattle.schedules.specs.Accepted.{TellsAsMuch}
use Rattle.unroll.specs.Laws.{KeepsInterface}

-- It has the interface of the netlist, and tells on each care vector at least what the netlist does.
pub record IsSplitOf (net : Parts) (care : CareSet) (split : Parts) : Type 0 where
  pub valid : IsNetlist split
  pub interface : KeepsInterface net split
  pub tells : TellsAsMuch net split care
