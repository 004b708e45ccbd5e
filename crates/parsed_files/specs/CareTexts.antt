-- The models of a care set in a text of their own, read again.
use Rattle.std.specs.Prelude.{◌≡◌, ◌≤◌, ◌++◌, ◌||◌, ℕ, true, List, [], ◌∷◌, length, map, All, Some, None, Ok, IfSome, is_some, option_map, codes}
use Rattle.std.specs.declared.option.Option.{Option}
use Rattle.cyc_base.specs.declared.limits.TheConstants.{MAX_FILE_BYTES}
use Rattle.netlist.specs.declared.parts.Parts.{Parts}
use Rattle.blif_read.specs.Reads.{reads}
use Rattle.blif_read.specs.declared.models.BlifModel.{BlifModel}
use Rattle.flatten.specs.Flat.{flat}
use Rattle.care_sets.specs.Binding.{IsCare, IsCareOf}
use Rattle.care_sets.specs.Care.{CareSet}
use Rattle.parsed_files.specs.CareFiles.{care_of}

abbrev pub listed : Option Parts → List Parts
listed None = []
listed (Some model) = model ∷ []

-- the models of a care set, the assumption first
abbrev pub models_of : CareSet → List Parts
models_of care = listed (option_map (λ model. model.net) care.assume) ++ listed (option_map (λ model. model.net) care.invariant)

-- one is there, and they have the names of a care file's models
pub record AreNamed (care : CareSet) : Type 0 where
  pub some : (is_some care.assume || is_some care.invariant) ≡ true
  pub assume : IfSome care.assume (λ model. model.net.name ≡ codes "assume")
  pub invariant : IfSome care.invariant (λ model. model.net.name ≡ codes "invariant")

-- A text that is read as one model for each of them, and these flatten to them again, is a care file of this care set.
abbrev pub CareTextsReadBack : Type 0
CareTextsReadBack = (net : Parts) (care : CareSet) (models : List BlifModel) (bytes : List ℕ) → IsCareOf net care → IsCare care → AreNamed care
    → map (λ model. model.name) models ≡ map (λ model. model.name) (models_of care) → reads bytes ≡ Ok models
    → All (λ model. flat models model.name ≡ Ok model) (models_of care) → length bytes ≤ MAX_FILE_BYTES → care_of net bytes ≡ Ok care
