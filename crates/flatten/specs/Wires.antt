-- Wires of a hierarchy, and the names that they have in the flat netlist.
use Rattle.std.specs.Prelude.{ℕ, suc, List, [], ◌∷◌, ◌++◌, Some, None}
use Rattle.std.specs.declared.option.Option.{Option}
use Rattle.std.specs.List.{flat_map}
use Rattle.std.specs.Fmt.{decimal}
use Rattle.cyc_base.specs.Tildes.{longest_run_of, tildes}
use Rattle.netlist.specs.declared.parts.Clock.{Clock}
use Rattle.blif_read.specs.declared.models.BlifModel.{BlifModel}
use Rattle.blif_read.specs.declared.models.Item.{Item}
use Rattle.blif_read.specs.declared.models.Item.TheVariants.{Gate, Latch, Part}

-- the numbers of the instances on the way from the top, and a name of the model there
pub record Wire : Type 0 where
  pub path : List ℕ
  pub name : List ℕ

-- a run of `~` longer by one than the longest in any of these names
abbrev pub mark : List (List ℕ) → List ℕ
mark names = tildes (suc (longest_run_of names))

-- the names of wires in a file: inputs, outputs, clocks, and all names of the bodies but those of models
abbrev pub control_names : Option Clock → List (List ℕ)
control_names (Some clock) = clock.name ∷ []
control_names None = []

abbrev pub pair_names : List (List ℕ × List ℕ) → List (List ℕ)
pair_names pairs = flat_map (λ p. p.0 ∷ p.1 ∷ []) pairs

abbrev pub item_names : Item → List (List ℕ)
item_names (Gate gate) = gate.output ∷ gate.pins
item_names (Latch latch) = latch.from ∷ latch.output ∷ control_names latch.control
item_names (Part part) = pair_names part.pairs

abbrev pub model_names : BlifModel → List (List ℕ)
model_names model = model.inputs ++ (model.outputs ++ (model.clocks ++ flat_map item_names model.body))

abbrev pub wire_names : List BlifModel → List (List ℕ)
wire_names models = flat_map model_names models

-- the mark of a file
abbrev pub mark_of : List BlifModel → List ℕ
mark_of models = mark (wire_names models)

-- a wire of the top has its own name; one below has the numbers along its path before it, each with the mark
abbrev pub printed_at : List ℕ → List ℕ → List ℕ → List ℕ
printed_at m [] name = name
printed_at m (k ∷ path) name = decimal k ++ (m ++ printed_at m path name)

abbrev pub printed : List ℕ → Wire → List ℕ
printed m wire = printed_at m wire.path wire.name
