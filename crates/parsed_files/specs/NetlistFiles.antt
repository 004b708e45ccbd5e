-- The netlist of a file's bytes, or the file's first fault.
use Rattle.std.specs.Prelude.{ℕ, List, [], ◌∷◌, nat_le, length, if◌then◌else◌, Some, Ok, Err}
use Rattle.std.specs.declared.option.Option.{Option}
use Rattle.std.specs.declared.result.Result.{Result}
use Rattle.cyc_base.specs.declared.limits.TheConstants.{MAX_FILE_BYTES}
use Rattle.netlist.specs.declared.parts.Parts.{Parts}
use Rattle.blif_read.specs.Reads.{reads}
use Rattle.blif_read.specs.declared.models.BlifModel.{BlifModel}
use Rattle.blif_read.specs.declared.fault.BlifFault.{BlifFault}
use Rattle.flatten.specs.Flat.{flat}
use Rattle.flatten.specs.declared.fault.FlatFault.{FlatFault}
use Rattle.parsed_files.specs.Faults.{Fault, too_long, blif_fault, flat_fault}

-- the name of the first model, which is the top
abbrev pub top_of : List BlifModel → List ℕ
top_of [] = []
top_of (model ∷ models) = model.name

abbrev pub flat_result : Result Parts FlatFault → Result Parts (Option Fault)
flat_result (Ok net) = Ok net
flat_result (Err fault) = Err (flat_fault fault)

abbrev pub models_result : Result (List BlifModel) BlifFault → Result Parts (Option Fault)
models_result (Ok models) = flat_result (flat models (top_of models))
models_result (Err fault) = Err (blif_fault fault)

-- the netlist of a file at its first model, or the file's first fault
abbrev pub netlist_of : List ℕ → Result Parts (Option Fault)
netlist_of bytes = if nat_le (length bytes) MAX_FILE_BYTES then models_result (reads bytes) else Err (Some too_long)
