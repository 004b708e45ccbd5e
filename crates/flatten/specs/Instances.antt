-- Models by their names, and what is wrong with an instance.
use Rattle.std.specs.Prelude.{◌++◌, ℕ, nat_le, ◌||◌, Bool, not, if◌then◌else◌, List, [], ◌∷◌, length, Some, None, Ok, Err, position, option_map, is_some, slice_index_or}
use Rattle.std.specs.declared.option.Option.{Option}
use Rattle.std.specs.declared.result.Result.{Result}
use Rattle.std.specs.List.{find, list_any}
use Rattle.std.specs.Option.{option_or}
use Rattle.std.specs.Str.{bytes_eq}
use Rattle.blif_read.specs.Find.{has_name}
use Rattle.blif_read.specs.declared.models.BlifModel.{BlifModel}
use Rattle.blif_read.specs.declared.models.PartLine.{PartLine}
use Rattle.flatten.specs.declared.fault.FlatFault.{FlatFault}
use Rattle.flatten.specs.declared.fault.FlatFault.TheVariants.{UnknownModel, Recursive, TooDeep, UnknownFormal, FormalTwice, OpenInput}
use Rattle.flatten.specs.Paths.{Instance, actual_of}

-- the place of the model of this name
abbrev pub find_model : List BlifModel → List ℕ → Option ℕ
find_model models name = position (has_name name) models

-- a model by its place, and its parts
abbrev pub no_model : BlifModel
no_model = record { name = []; inputs = []; outputs = []; clocks = []; body = [] }

abbrev pub model_at : List BlifModel → ℕ → BlifModel
model_at models i = slice_index_or models i no_model

-- whether the model is the top or lies on the path
abbrev pub is_open : List ℕ → List Instance → List ℕ → Bool
is_open top [] name = bytes_eq top name
is_open top (o ∷ up) name = bytes_eq o.part.model name || is_open top up name

-- inputs, outputs and clocks are formals
abbrev pub formals : BlifModel → List (List ℕ)
formals model = model.inputs ++ (model.outputs ++ model.clocks)

-- whether a name is one of these
abbrev pub is_among : List (List ℕ) → List ℕ → Bool
is_among names name = list_any (bytes_eq name) names

-- what is wrong with one more pair: its formal is none of these, or an earlier pair binds it
abbrev pub formal_fault : List (List ℕ) → List (List ℕ × List ℕ) → List ℕ → Option FlatFault
formal_fault names before formal =
    if not (is_among names formal) then Some (UnknownFormal formal)
    else (if is_some (actual_of before formal) then Some (FormalTwice formal)
    else None)

-- the first pair, from left to right, whose formal is none of these or is bound by an earlier pair
abbrev pub pair_fault : List (List ℕ) → List (List ℕ × List ℕ) → List (List ℕ × List ℕ) → Option FlatFault
pair_fault names before [] = None
pair_fault names before (p ∷ pairs) =
    if not (is_among names p.0) then Some (UnknownFormal p.0)
    else (if is_some (actual_of before p.0) then Some (FormalTwice p.0)
    else pair_fault names (before ++ p ∷ []) pairs)

-- the first of these names that no pair binds
abbrev pub first_open : List (List ℕ × List ℕ) → List (List ℕ) → Option (List ℕ)
first_open pairs names = find (λ name. not (is_some (actual_of pairs name))) names

-- what is wrong with the pairs of an instance: each of its model's inputs and clocks is to be bound
abbrev pub pairs_fault : BlifModel → List (List ℕ × List ℕ) → Option FlatFault
pairs_fault model pairs =
    option_or (pair_fault (formals model) [] pairs) (option_map OpenInput (first_open pairs (model.inputs ++ model.clocks)))

-- where the model of an instance stands, or the instance's first fault
abbrev pub entry : List ℕ → Bool → Bool → (ℕ → Option FlatFault) → Option ℕ → Result ℕ FlatFault
entry name opened deep fault None = Err (UnknownModel name)
entry name opened deep fault (Some i) =
    if opened then Err (Recursive name)
    else (if deep then Err (TooDeep name)
    else elim (fault i) [ Some f ↦ Err f | None ↦ Ok i ])

-- the same for an instance that stands on a path, where at most `depth` instances may lie in one another
abbrev pub entered : ℕ → List BlifModel → List ℕ → List Instance → PartLine → Result ℕ FlatFault
entered depth models top path part =
    entry part.model (is_open top path part.model) (nat_le depth (length path))
    (λ i. pairs_fault (model_at models i) part.pairs) (find_model models part.model)
