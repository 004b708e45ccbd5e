-- The laws of reading back.
use Rattle.std.specs.Prelude.{◌≡◌, ◌≢◌, ◌≤◌, ◌+◌, List, [], ◌∷◌, length, map, All, AllPairs, Ok}
use Rattle.cyc_base.specs.declared.limits.TheConstants.{MAX_FLAT_ITEMS}
use Rattle.cover_logic.specs.Covers.{IsCover}
use Rattle.netlist.specs.declared.parts.Parts.{Parts}
use Rattle.netlist.specs.Netlists.{IsNetlist}
use Rattle.blif_read.specs.declared.models.BlifModel.{BlifModel}
use Rattle.blif_read.specs.Reads.{reads}
use Rattle.flatten.specs.Flat.{flat}
use Rattle.blif_write.specs.Written.{written, models_written}

-- the text of the netlist is read as one model of its name, and flattening the model gives the netlist again
pub record ReadsBack (net : Parts) : Type 0 where
  pub model : BlifModel
  pub named : model.name ≡ net.name
  pub read : reads (written net) ≡ Ok (model ∷ [])
  pub flat : flat (model ∷ []) net.name ≡ Ok net

abbrev pub HasCovers : Parts → Type 0
HasCovers net = All (λ gate. IsCover gate.cover) net.gates

abbrev pub IsSmall : Parts → Type 0
IsSmall net = length net.latches + length net.gates ≤ MAX_FLAT_ITEMS

abbrev pub WrittenReadsBack : Type 0
WrittenReadsBack = (net : Parts) → IsNetlist net → HasCovers net → IsSmall net → ReadsBack net

-- the text of the netlists is read as one model for each, of its name and in their order, and flattening these by the
-- name of a netlist gives it again
pub record EachReadsBack (nets : List Parts) : Type 0 where
  pub models : List BlifModel
  pub named : map (λ model. model.name) models ≡ map (λ net. net.name) nets
  pub read : reads (models_written nets) ≡ Ok models
  pub flat : All (λ net. flat models net.name ≡ Ok net) nets

-- there is a netlist, their names differ, and each is small
pub record FitOneText (nets : List Parts) : Type 0 where
  pub some : nets ≢ []
  pub names_differ : AllPairs (λ (a b : Parts). a.name ≢ b.name) nets
  pub small : All IsSmall nets

abbrev pub WrittenModelsReadBack : Type 0
WrittenModelsReadBack = (nets : List Parts) → All IsNetlist nets → All HasCovers nets → FitOneText nets → EachReadsBack nets
