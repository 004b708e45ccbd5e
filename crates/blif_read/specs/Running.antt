-- The running state of the reader: the models that are ended, and the one in progress.
use Rattle.std.specs.Prelude.{◌≡◌, ◌≤◌, ℕ, Bool, true, false, List, [], ◌∷◌, ◌++◌, All, length, Some, None, option_map, option_and_then, option_to_list, unwrap_or, bytes_eq}
use Rattle.std.specs.List.{list_any}
use Rattle.std.specs.declared.option.Option.{Option}
use Rattle.cover_logic.specs.declared.row.Row as rows
use Rattle.cover_logic.specs.Covers.{Cover}
use Rattle.cyc_base.specs.declared.limits.TheConstants.{MAX_PINS}
use Rattle.blif_text.specs.Texts.{Line}
use Rattle.blif_read.specs.declared.fault.BlifFault.{BlifFault}
use Rattle.blif_read.specs.declared.place.LinePlace.{LinePlace}
use Rattle.blif_read.specs.declared.models.BlifModel.{BlifModel}
use Rattle.blif_read.specs.declared.models.GateLine.{GateLine}
use Rattle.blif_read.specs.declared.models.Item.{Item}
use Rattle.blif_read.specs.declared.models.Item.TheVariants as item
use Rattle.blif_read.specs.declared.statement.Statement.{Statement}
use Rattle.blif_read.specs.declared.statement.Statement.TheVariants.{Model, Inputs, Outputs, Clocks, Names, Row, Latch, Part, End}
use Rattle.blif_read.specs.Kinds.{kind, model_name}
use Rattle.blif_read.specs.Faults.{fault_at}

-- a gate whose rows may go on
pub record OpenGate : Type 0 where
  pub pins : List (List ℕ)
  pub output : List ℕ
  -- whether its first row is of the on-plane, if it has a row
  pub first : Option Bool
  pub rows : List rows.Row

-- what makes its cover one
pub record IsOpenGate (gate : OpenGate) : Type 0 where
  pub pins : length gate.pins ≤ MAX_PINS
  pub width : All (λ row. length row.lits ≡ length gate.pins) gate.rows
  pub first : gate.rows ≡ [] → gate.first ≡ None

abbrev pub new_gate : List (List ℕ) → List ℕ → OpenGate
new_gate pins output = record { pins = pins; output = output; first = None; rows = [] }

abbrev pub add_row : rows.Row → Bool → OpenGate → OpenGate
add_row row plane gate = record gate { first = Some (unwrap_or gate.first plane); rows = gate.rows ++ row ∷ [] }

abbrev pub gate_line : OpenGate → GateLine
gate_line gate =
    let cover : Cover = record { pins = length gate.pins; plane = unwrap_or gate.first true; rows = gate.rows } in
    record { pins = gate.pins; output = gate.output; cover = cover }

-- a model in progress: what it has so far, and the gate whose rows may go on
pub record OpenModel : Type 0 where
  pub model : BlifModel
  pub gate : Option OpenGate

abbrev pub new_model : List ℕ → OpenModel
new_model name = record {
  model = record { name = name; inputs = []; outputs = []; clocks = []; body = [] };
  gate = None;
}

abbrev pub gate_items : Option OpenGate → List Item
gate_items None = []
gate_items (Some gate) = item.Gate (gate_line gate) ∷ []

-- what the model is where no more rows follow
abbrev pub ended : OpenModel → BlifModel
ended open_model = record open_model.model { body = open_model.model.body ++ gate_items open_model.gate }

abbrev pub with_gate : OpenModel → OpenGate → OpenModel
with_gate open_model gate = record { model = ended open_model; gate = Some gate }

abbrev pub with_item : OpenModel → Item → OpenModel
with_item open_model it =
    let model = ended open_model in
    record { model = record model { body = model.body ++ it ∷ [] }; gate = None }

-- the model in progress behind a statement in it
abbrev pub add : OpenModel → Statement → OpenModel
add open_model (Inputs names) = let model = ended open_model in record { model = record model { inputs = model.inputs ++ names }; gate = None }
add open_model (Outputs names) = let model = ended open_model in record { model = record model { outputs = model.outputs ++ names }; gate = None }
add open_model (Clocks names) = let model = ended open_model in record { model = record model { clocks = model.clocks ++ names }; gate = None }
add open_model (Names pins output) = with_gate open_model (new_gate pins output)
add open_model (Row row plane) = record open_model { gate = option_map (add_row row plane) open_model.gate }
add open_model (Latch latch) = with_item open_model (item.Latch latch)
add open_model (Part part) = with_item open_model (item.Part part)
add open_model other = record { model = ended open_model; gate = None }

pub record Progress : Type 0 where
  pub done : List BlifModel
  pub in_progress : Option OpenModel
  -- the names of all models so far
  pub names : List (List ℕ)

-- the models, where the one in progress ends
abbrev pub all_ended : Progress → List BlifModel
all_ended progress = progress.done ++ option_to_list (option_map ended progress.in_progress)

abbrev pub begin : Progress → List ℕ → Progress
begin progress name = record {
  done = all_ended progress;
  in_progress = Some (new_model name);
  names = progress.names ++ name ∷ [];
}

abbrev pub end : Progress → Progress
end progress = record { done = all_ended progress; in_progress = None; names = progress.names }

abbrev pub go_on : Progress → Statement → Progress
go_on progress said = record progress { in_progress = option_map (λ open_model. add open_model said) progress.in_progress }

abbrev pub follow : Progress → Statement → Progress
follow progress (Model name) = begin progress name
follow progress End = end progress
follow progress other = go_on progress other

-- where the next line lies
abbrev pub place_in : Option OpenModel → LinePlace
place_in None = record { in_model = false; pins = None; first = None }
place_in (Some open_model) = record {
  in_model = true;
  pins = option_map (λ gate. length gate.pins) open_model.gate;
  first = option_and_then (λ gate. gate.first) open_model.gate;
}

-- the fault of the next line
abbrev pub fault_next : Progress → Line → Option BlifFault
fault_next progress line =
    fault_at (kind line) line (place_in progress.in_progress) (list_any (bytes_eq (model_name line)) progress.names)

-- whether a statement's row has a literal for each pin of the gate, and a gate not too many pins
abbrev pub FitsGate : Option OpenGate → rows.Row → Type 0
FitsGate None row = Unit {0}
FitsGate (Some gate) row = length row.lits ≡ length gate.pins

abbrev pub FitsModel : OpenModel → Statement → Type 0
FitsModel open_model (Names pins output) = length pins ≤ MAX_PINS
FitsModel open_model (Row row plane) = FitsGate open_model.gate row
FitsModel open_model other = Unit {0}

abbrev pub FitsProgress : Option OpenModel → Statement → Type 0
FitsProgress None said = Unit {0}
FitsProgress (Some open_model) said = FitsModel open_model said
