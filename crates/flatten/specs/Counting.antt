-- How many more gates, latches and instances may come behind a part of the walk.
use Rattle.std.specs.Prelude.{◌≡◌, ◌-◌, nat_lt, ℕ, Bool, zero, suc, List, [], ◌∷◌, length, All, None, Some, Ok, Err}
use Rattle.std.specs.declared.result.Result.{Result}
use Rattle.std.specs.List.{list_any}
use Rattle.std.specs.Str.{bytes_eq}
use Rattle.blif_read.specs.declared.models.BlifModel.{BlifModel}
use Rattle.blif_read.specs.declared.models.PartLine.{PartLine}
use Rattle.blif_read.specs.declared.models.Item.{Item}
use Rattle.blif_read.specs.declared.models.Item.TheVariants.{Gate, Latch, Part}
use Rattle.flatten.specs.declared.fault.FlatFault.{FlatFault}
use Rattle.flatten.specs.declared.fault.FlatFault.TheVariants.{TooLarge}
use Rattle.flatten.specs.Paths.{Instance}
use Rattle.flatten.specs.Instances.{find_model, model_at, is_open, entry, pairs_fault}
use Rattle.flatten.specs.Walk.{Event, FlatLines, gate, latch, opens, fails, events, flat_lines}

-- the room that is left behind these events, or their first fault
abbrev pub left_by : ℕ → List Event → Result ℕ FlatFault
left_by room [] = Ok room
left_by room (fails fault ∷ rest) = Err fault
left_by zero (gate g ∷ rest) = Err TooLarge
left_by (suc room) (gate g ∷ rest) = left_by room rest
left_by zero (latch l ∷ rest) = Err TooLarge
left_by (suc room) (latch l ∷ rest) = left_by room rest
left_by zero (opens ∷ rest) = Err TooLarge
left_by (suc room) (opens ∷ rest) = left_by room rest

-- the models at these places, with the top's first, are open along this path
pub record AreOpen (models : List BlifModel) (top : List ℕ) (trail : List ℕ) (path : List Instance) : Type 0 where
  pub many : length trail ≡ suc (length path)
  pub names : (name : List ℕ) → list_any (λ i. bytes_eq (model_at models i).name name) trail ≡ is_open top path name

-- `entered` where these models are open
abbrev pub entered_below : ℕ → List BlifModel → List ℕ → PartLine → Result ℕ FlatFault
entered_below depth models trail part =
    entry part.model (list_any (λ i. bytes_eq (model_at models i).name part.model) trail) (nat_lt depth (length trail))
    (λ i. pairs_fault (model_at models i) part.pairs) (find_model models part.model)

-- the place of the model of an instance, before its pairs are looked at
abbrev pub chosen : List BlifModel → List ℕ → Bool → Bool → Result ℕ FlatFault
chosen models name opened deep = entry name opened deep (λ i. None) (find_model models name)

-- the pairs of an instance have no fault; the same of each instance in the file
abbrev pub Fits : List BlifModel → Item → Type 0
Fits models (Gate g) = Unit {0}
Fits models (Latch l) = Unit {0}
Fits models (Part p) = (i : ℕ) → find_model models p.model ≡ Some i → pairs_fault (model_at models i) p.pairs ≡ None

abbrev pub AllFit : List BlifModel → Type 0
AllFit models = All (λ model. All (Fits models) model.body) models

-- the room that is left behind these items of a body where these models are open, or their first fault
abbrev pub Leave : ℕ → List BlifModel → List ℕ → List Item → ℕ → Result ℕ FlatFault → Type 0
Leave depth models trail items room answer =
    (top m : List ℕ) (path : List Instance) (n : ℕ) → AreOpen models top trail path
    → left_by room (events (depth - length path) depth models top m path n items) ≡ answer

-- an item leaves this much room to those behind it, or has this fault
abbrev pub LeavesTo : ℕ → List BlifModel → List ℕ → Item → ℕ → ℕ → Type 0
LeavesTo depth models trail item room left =
    (rest : List Item) (answer : Result ℕ FlatFault) → Leave depth models trail rest left answer → Leave depth models trail (item ∷ rest) room answer

abbrev pub FailsBy : ℕ → List BlifModel → List ℕ → Item → ℕ → FlatFault → Type 0
FailsBy depth models trail item room fault = (rest : List Item) → Leave depth models trail (item ∷ rest) room (Err fault)

-- the walk below the model at this place has no fault
abbrev pub HasLines : ℕ → ℕ → List BlifModel → ℕ → Type 0
HasLines depth limit models top = (lines : FlatLines) × (flat_lines depth limit models top ≡ Ok lines)
