-- The flat netlist of a top in a file of models.
use Rattle.std.specs.Prelude.{ℕ, List, Some, None, Ok, Err}
use Rattle.std.specs.declared.option.Option.{Option}
use Rattle.std.specs.declared.result.Result.{Result}
use Rattle.cyc_base.specs.declared.limits.TheConstants.{MAX_DEPTH, MAX_FLAT_ITEMS}
use Rattle.netlist.specs.declared.parts.Parts.{Parts}
use Rattle.blif_read.specs.declared.models.BlifModel.{BlifModel}
use Rattle.flatten.specs.declared.fault.FlatFault.{FlatFault}
use Rattle.flatten.specs.declared.fault.FlatFault.TheVariants.{UnknownModel}
use Rattle.flatten.specs.Instances.{find_model, model_at}
use Rattle.flatten.specs.Walk.{FlatLines, flat_lines}
use Rattle.flatten.specs.Linking.{linked}

-- what the lines of a hierarchy come to
abbrev pub linked_lines : BlifModel → Result FlatLines FlatFault → Result Parts FlatFault
linked_lines top (Ok lines) = linked top lines
linked_lines top (Err fault) = Err fault

-- the flat netlist of the model at a place, or its first fault
abbrev pub flat_at : ℕ → ℕ → List BlifModel → ℕ → Result Parts FlatFault
flat_at depth limit models i = linked_lines (model_at models i) (flat_lines depth limit models i)

abbrev pub flat_from : ℕ → ℕ → List BlifModel → List ℕ → Option ℕ → Result Parts FlatFault
flat_from depth limit models top None = Err (UnknownModel top)
flat_from depth limit models top (Some i) = flat_at depth limit models i

-- the flat netlist or its first fault, where at most `depth` instances lie in one another, and at most `limit`
-- gates, latches and instances come
abbrev pub flat_within : ℕ → ℕ → List BlifModel → List ℕ → Result Parts FlatFault
flat_within depth limit models top = flat_from depth limit models top (find_model models top)

-- the flat netlist or its first fault
abbrev pub flat : List BlifModel → List ℕ → Result Parts FlatFault
flat models top = flat_within MAX_DEPTH MAX_FLAT_ITEMS models top
