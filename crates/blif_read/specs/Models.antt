-- The models of a list of statements.
use Rattle.std.specs.Prelude.{ℕ, Bool, true, List, [], ◌∷◌, length, flat_map}
use Rattle.cover_logic.specs.declared.row.Row as rows
use Rattle.cover_logic.specs.Covers.{Cover}
use Rattle.blif_read.specs.declared.models.BlifModel.{BlifModel}
use Rattle.blif_read.specs.declared.models.GateLine.{GateLine}
use Rattle.blif_read.specs.declared.models.Item.{Item}
use Rattle.blif_read.specs.declared.models.Item.TheVariants as item
use Rattle.blif_read.specs.declared.statement.Statement.{Statement}
use Rattle.blif_read.specs.declared.statement.Statement.TheVariants.{Model, Inputs, Outputs, Clocks, Names, Row, Latch, Part, End}

-- A model ends at `.end`, at the next `.model` or at the end of the text.
abbrev pub members : List Statement → List Statement
members [] = []
members (Model name ∷ rest) = []
members (End ∷ rest) = []
members (other ∷ rest) = other ∷ members rest

abbrev pub inputs_in : Statement → List (List ℕ)
inputs_in (Inputs names) = names
inputs_in other = []

abbrev pub outputs_in : Statement → List (List ℕ)
outputs_in (Outputs names) = names
outputs_in other = []

abbrev pub clocks_in : Statement → List (List ℕ)
clocks_in (Clocks names) = names
clocks_in other = []

-- the rows that follow directly
abbrev pub rows_of : List Statement → List rows.Row
rows_of (Row row plane ∷ rest) = row ∷ rows_of rest
rows_of other = []

-- the plane of the first of them; a cover without rows is an on-plane
abbrev pub plane_of : List Statement → Bool
plane_of (Row row plane ∷ rest) = plane
plane_of other = true

-- the gate of a `.names` line, whose rows follow
abbrev pub gate_of : List (List ℕ) → List ℕ → List Statement → GateLine
gate_of pins output rest =
    let cover : Cover = record { pins = length pins; plane = plane_of rest; rows = rows_of rest } in
    record { pins = pins; output = output; cover = cover }

abbrev pub body_of : List Statement → List Item
body_of [] = []
body_of (Names pins output ∷ rest) = item.Gate (gate_of pins output rest) ∷ body_of rest
body_of (Latch latch ∷ rest) = item.Latch latch ∷ body_of rest
body_of (Part part ∷ rest) = item.Part part ∷ body_of rest
body_of (other ∷ rest) = body_of rest

abbrev pub model_of : List ℕ → List Statement → BlifModel
model_of name inside = record {
  name = name;
  inputs = flat_map inputs_in inside;
  outputs = flat_map outputs_in inside;
  clocks = flat_map clocks_in inside;
  body = body_of inside;
}

abbrev pub models : List Statement → List BlifModel
models [] = []
models (Model name ∷ rest) = model_of name (members rest) ∷ models rest
models (other ∷ rest) = models rest
