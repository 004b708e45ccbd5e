-- The netlist of a text: which model is the top, and what the first fault is.
use Rattle.std.proofs.Common.{◌≡◌, ℕ, ◌<◌, ◌≤◌, List, [], ◌∷◌, length, get_or, Some, Ok, Err, Bool, true, false, refl, ap, arith}
use Rattle.std.specs.Prelude.{nat_le, if◌then◌else◌}
use Rattle.cyc_base.specs.declared.limits.TheConstants.{MAX_FILE_BYTES}
use Rattle.blif_read.specs.Reads.{reads}
use Rattle.blif_read.specs.declared.models.BlifModel.{BlifModel}
use Rattle.flatten.specs.Flat.{flat}
use Rattle.flatten.specs.declared.fault.FlatFault.{FlatFault}
use Rattle.parsed_files.specs.Faults.{flat_fault, too_long}
use Rattle.parsed_files.specs.NetlistFiles.{models_result, netlist_of, top_of}

-- a file that isn't too long has the netlist of its text
pub netlist_of_short : (bytes : List ℕ) → length bytes ≤ MAX_FILE_BYTES → netlist_of bytes ≡ models_result (reads bytes)
netlist_of_short bytes short = ap (λ (t : Bool). if t then models_result (reads bytes) else Err (Some too_long)) (let e : nat_le (length bytes) MAX_FILE_BYTES ≡ true = grind (arith, short) in e)

pub netlist_of_long : (bytes : List ℕ) → MAX_FILE_BYTES < length bytes → netlist_of bytes ≡ Err (Some too_long)
netlist_of_long bytes long = ap (λ (t : Bool). if t then models_result (reads bytes) else Err (Some too_long)) (let e : nat_le (length bytes) MAX_FILE_BYTES ≡ false = grind (arith, long) in e)

-- Models that were read are some, so the first one is there.
pub top_at : (models : List BlifModel) (d : BlifModel) → 0 < length models → (get_or models 0 d).name ≡ top_of models
top_at [] d some = absurd (omega (arith, some))
top_at (model ∷ models) d some = refl

-- a fault of flattening at the first model is the file's
pub first_bad : (bytes : List ℕ) (models : List BlifModel) (name : List ℕ) (fault : FlatFault) → length bytes ≤ MAX_FILE_BYTES → reads bytes ≡ Ok models
    → name ≡ top_of models → flat models name ≡ Err fault → netlist_of bytes ≡ Err (flat_fault fault)
first_bad bytes models name fault short is top there = grind arith
