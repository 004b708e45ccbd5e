-- The models that there are once more statements follow.
use Rattle.std.proofs.Common.{◌≡◌, ℕ, Bool, true, List, [], ◌∷◌, ◌++◌, length, Some, None, refl, ap, ◌∙◌, append_assoc, append-nil, arith}
use Rattle.blif_read.proofs.Common.{option_map, Option, BlifModel, Statement, Inputs, Outputs, Clocks, Latch, Part, End, members, OpenGate, OpenModel, Progress, all_ended, follow}
use Rattle.std.specs.Prelude.{flat_map, option_to_list, unwrap_or}
use Rattle.cover_logic.specs.declared.row.Row as rows
use Rattle.cover_logic.specs.Covers.{Cover}
use Rattle.blif_read.specs.declared.models.GateLine.{GateLine}
use Rattle.blif_read.specs.declared.models.Item.{Item}
use Rattle.blif_read.specs.declared.models.Item.TheVariants as item
use Rattle.blif_read.specs.declared.statement.Statement.TheVariants.{Model, Row}
use Rattle.blif_read.specs.Models.{inputs_in, outputs_in, clocks_in, rows_of, plane_of, body_of, models}
use Rattle.blif_read.specs.Running.{add_row, gate_items, ended, add}

-- the plane of the first row, where more rows follow
abbrev pub plane_then : Option Bool → List Statement → Bool
plane_then (Some plane) inside = plane
plane_then None inside = plane_of inside

abbrev pub cover_line : List (List ℕ) → List ℕ → Bool → List rows.Row → GateLine
cover_line pins output plane rows =
    let cover : Cover = record { pins = length pins; plane = plane; rows = rows } in
    record { pins = pins; output = output; cover = cover }

abbrev pub gate_then : Option OpenGate → List Statement → List Item
gate_then None inside = body_of inside
gate_then (Some gate) inside =
    item.Gate (cover_line gate.pins gate.output (plane_then gate.first inside) (gate.rows ++ rows_of inside)) ∷ body_of inside

abbrev pub model_with : List ℕ → List (List ℕ) → List (List ℕ) → List (List ℕ) → List Item → BlifModel
model_with name inputs outputs clocks body = record { name = name; inputs = inputs; outputs = outputs; clocks = clocks; body = body }

-- the model in progress, where these statements follow in it
abbrev pub extended : OpenModel → List Statement → BlifModel
extended m inside =
    model_with m.model.name (m.model.inputs ++ flat_map inputs_in inside) (m.model.outputs ++ flat_map outputs_in inside)
    (m.model.clocks ++ flat_map clocks_in inside) (m.model.body ++ gate_then m.gate inside)

abbrev pub open_then : Option OpenModel → List Statement → List BlifModel
open_then None rest = []
open_then (Some m) rest = extended m (members rest) ∷ []

abbrev pub whole : Progress → List Statement → List BlifModel
whole progress rest = (progress.done ++ open_then progress.in_progress rest) ++ models rest

-- Where no row follows, the gate is as it stands.

plane_ended : (first : Option Bool) (inside : List Statement) → plane_of inside ≡ true → plane_then first inside ≡ unwrap_or first true
plane_ended first inside is = grind arith

gate_ended : (gate : Option OpenGate) (inside : List Statement) → plane_of inside ≡ true → rows_of inside ≡ [] → gate_then gate inside ≡ gate_items gate ++ body_of inside
gate_ended gate inside plane rows = grind (arith, plane_ended, append-nil)

body_ended : (body : List Item) (gate : Option OpenGate) (inside : List Statement) → plane_of inside ≡ true → rows_of inside ≡ []
    → (body ++ gate_items gate) ++ body_of inside ≡ body ++ gate_then gate inside
body_ended body gate inside plane rows = grind (arith, append_assoc body (gate_items gate) (body_of inside), gate_ended gate inside plane rows)

-- One statement more in the model.

plane_added : (first : Option Bool) (row : rows.Row) (plane : Bool) (inside : List Statement) → unwrap_or first plane ≡ plane_then first (Row row plane ∷ inside)
plane_added first row plane inside = grind arith

row_added : (gate : Option OpenGate) (row : rows.Row) (plane : Bool) (inside : List Statement)
    → gate_then (option_map (add_row row plane) gate) inside ≡ gate_then gate (Row row plane ∷ inside)
row_added gate row plane inside = grind (arith, plane_added, append_assoc)

abbrev StandsInside : Statement → Type 0
StandsInside (Model name) = Unit {0} → ⊥
StandsInside End = Unit {0} → ⊥
StandsInside other = Unit {0}

extended_by : (m : OpenModel) (said : Statement) (inside : List Statement) → StandsInside said → extended (add m said) inside ≡ extended m (said ∷ inside)
extended_by m (Model name) inside stands = absurd (stands tt)
extended_by m End inside stands = absurd (stands tt)
extended_by m (Inputs names) inside stands = grind (arith, append_assoc m.model.inputs names (flat_map inputs_in inside), body_ended m.model.body m.gate (Inputs names ∷ inside))
extended_by m (Outputs names) inside stands = grind (arith, append_assoc m.model.outputs names (flat_map outputs_in inside), body_ended m.model.body m.gate (Outputs names ∷ inside))
extended_by m (Clocks names) inside stands = grind (arith, append_assoc m.model.clocks names (flat_map clocks_in inside), body_ended m.model.body m.gate (Clocks names ∷ inside))
extended_by m (Row row plane) inside stands = grind (arith, row_added m.gate row plane inside)
extended_by m (Latch latch) inside stands = grind (arith, append_assoc (m.model.body ++ gate_items m.gate) (item.Latch latch ∷ []) (body_of inside), body_ended m.model.body m.gate (Latch latch ∷ inside))
extended_by m (Part part) inside stands = grind (arith, append_assoc (m.model.body ++ gate_items m.gate) (item.Part part ∷ []) (body_of inside), body_ended m.model.body m.gate (Part part ∷ inside))
extended_by m other inside stands = grind (arith, body_ended m.model.body m.gate (other ∷ inside))

-- Nothing more in the model.
extended_no_more : (m : OpenModel) → extended m [] ≡ ended m
extended_no_more m = grind (arith, append-nil m.model.inputs, append-nil m.model.outputs, append-nil m.model.clocks, gate_ended m.gate [], append-nil (gate_items m.gate))

open_ended : (in_progress : Option OpenModel) (rest : List Statement) → members rest ≡ [] → open_then in_progress rest ≡ option_to_list (option_map ended in_progress)
open_ended in_progress rest none = grind (arith, extended_no_more)

open_by : (in_progress : Option OpenModel) (said : Statement) (rest : List Statement) → StandsInside said → members (said ∷ rest) ≡ said ∷ members rest
    → open_then (option_map (λ m. add m said) in_progress) rest ≡ open_then in_progress (said ∷ rest)
open_by in_progress said rest stands inside = grind (arith, extended_by)

-- A statement in the model in progress, and outside of one nothing.
within : (p : Progress) (said : Statement) (rest : List Statement) → StandsInside said → members (said ∷ rest) ≡ said ∷ members rest
    → (p.done ++ open_then (option_map (λ m. add m said) p.in_progress) rest) ++ models rest ≡ (p.done ++ open_then p.in_progress (said ∷ rest)) ++ models rest
within p said rest stands inside = ap (λ more. (p.done ++ more) ++ models rest) (open_by p.in_progress said rest stands inside)

-- The models stay the same when a statement is taken from those that follow.
pub whole_step : (p : Progress) (said : Statement) (rest : List Statement) → whole (follow p said) rest ≡ whole p (said ∷ rest)
whole_step p other rest = grind (arith, append_assoc, open_ended, append-nil, within)

pub whole_end : (p : Progress) → whole p [] ≡ all_ended p
whole_end p = append-nil (p.done ++ open_then p.in_progress []) ∙ ap (λ more. p.done ++ more) (open_ended p.in_progress [] refl)
