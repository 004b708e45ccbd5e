-- The care set of a care file: its models `assume` and `invariant`, flattened and bound to the netlist.
use Rattle.std.specs.Prelude.{ℕ, Bool, ◌&&◌, List, [], ◌∷◌, map, length, nat_le, if◌then◌else◌, Some, None, Ok, Err, is_none, position, option_map, unwrap_or, codes}
use Rattle.std.specs.declared.option.Option.{Option}
use Rattle.std.specs.declared.result.Result.{Result}
use Rattle.std.specs.List.{list_any}
use Rattle.std.specs.Option.{option_or, option_and_then}
use Rattle.cyc_base.specs.declared.limits.TheConstants.{MAX_FILE_BYTES}
use Rattle.netlist.specs.declared.parts.Parts.{Parts}
use Rattle.netlist.specs.Faults.{first_there}
use Rattle.blif_read.specs.Find.{has_name}
use Rattle.blif_read.specs.Reads.{reads}
use Rattle.blif_read.specs.declared.models.BlifModel.{BlifModel}
use Rattle.blif_read.specs.declared.fault.BlifFault.{BlifFault}
use Rattle.flatten.specs.Flat.{flat}
use Rattle.loops.specs.Found.{loops_of}
use Rattle.loops.specs.Listed.{gate_numbers}
use Rattle.care_sets.specs.Care.{CareSet}
use Rattle.care_sets.specs.Binding.{column_of, fault_but_loops}
use Rattle.care_sets.specs.declared.fault.CareFault.{CareFault}
use Rattle.care_sets.specs.declared.fault.CareFault.TheVariants.{NoModels, Loop}
use Rattle.care_sets.specs.declared.model.CareModel.{CareModel}
use Rattle.parsed_files.specs.Faults.{Fault, too_long, blif_fault, care_fault}
use Rattle.parsed_files.specs.NetlistFiles.{flat_result}

-- without a care file every vector counts
abbrev pub no_care : CareSet
no_care = record { assume = None; invariant = None }

-- a walk of the netlist ends at the gate where it begins
abbrev pub has_loop : Parts → Bool
has_loop net = list_any (λ n. (loops_of net).same n n) (gate_numbers net)

-- the first fault of a model that may read the columns from `first` on: a loop comes last
abbrev pub model_fault : Parts → ℕ → Parts → Option CareFault
model_fault net first model = option_or (fault_but_loops net first model) (if has_loop model then Some (Loop model.name) else None)

-- that of both models, of which at least one should be there
abbrev pub models_fault : Parts → Option Parts → Option Parts → Option CareFault
models_fault net a i = first_there (
    (if is_none a && is_none i then Some NoModels else None)
    ∷ option_and_then (model_fault net 0) a
    ∷ option_and_then (model_fault net (length net.inputs)) i
    ∷ [])

-- the model with the columns that its inputs name
abbrev pub bound_model : Parts → ℕ → Parts → CareModel
bound_model net first model = record { net = model; first = first; columns = map (λ name. unwrap_or (column_of net name) 0) model.inputs }

abbrev pub unless_fault : Option CareFault → CareSet → Result CareSet (Option Fault)
unless_fault None care = Ok care
unless_fault (Some fault) care = Err (care_fault fault)

-- the care set of two models, or their first fault
abbrev pub bound : Parts → Option Parts → Option Parts → Result CareSet (Option Fault)
bound net a i =
    unless_fault (models_fault net a i) (record { assume = option_map (bound_model net 0) a; invariant = option_map (bound_model net (length net.inputs)) i })

-- the flat netlist of the model of this name, where the file has one
abbrev pub some_part : Result Parts (Option Fault) → Result (Option Parts) (Option Fault)
some_part (Ok net) = Ok (Some net)
some_part (Err fault) = Err fault

abbrev pub part_of : List BlifModel → List ℕ → Result (Option Parts) (Option Fault)
part_of models name =
    if is_none (position (has_name name) models) then Ok None else some_part (flat_result (flat models name))

abbrev pub with_invariant : Parts → Option Parts → Result (Option Parts) (Option Fault) → Result CareSet (Option Fault)
with_invariant net a (Ok i) = bound net a i
with_invariant net a (Err fault) = Err fault

abbrev pub with_assume : Parts → List BlifModel → Result (Option Parts) (Option Fault) → Result CareSet (Option Fault)
with_assume net models (Ok a) = with_invariant net a (part_of models (codes "invariant"))
with_assume net models (Err fault) = Err fault

-- the assumption is flattened first
abbrev pub care_models : Parts → Result (List BlifModel) BlifFault → Result CareSet (Option Fault)
care_models net (Ok models) = with_assume net models (part_of models (codes "assume"))
care_models net (Err fault) = Err (blif_fault fault)

-- the care set of a file's bytes for a netlist, or the file's first fault
abbrev pub care_of : Parts → List ℕ → Result CareSet (Option Fault)
care_of net bytes = if nat_le (length bytes) MAX_FILE_BYTES then care_models net (reads bytes) else Err (Some too_long)
