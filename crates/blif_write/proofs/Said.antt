-- What the lines of written netlists say: one model for each.
use Rattle.std.proofs.Common.{◌≡◌, ℕ, ◌+◌, Bool, true, false, List, [], ◌∷◌, ◌++◌, length, map, take, refl, sym, ap, ◌∙◌, append_assoc, append-nil, if◌then◌else◌, None, Some, get_or, arith}
use Rattle.blif_write.proofs.Common.{All, flat_map, list_any, Option, length-map, All-head, All-tail, Lit, Edge, Init, Parts, numbered, BlifModel, GateLine, LatchLine, signal_name, clock_lines, control_words, edge_word, init_word, latch_line, latch_lines, lit_byte, plane_word, lits_words, row_line, gate_lines, all_gate_lines, lines_of}
use Rattle.std.specs.Prelude.{codes, bytes_eq}
use Rattle.std.proofs.lemmas.List.{map-append, take_at, get_or_at}
use Rattle.cover_logic.specs.declared.row.Row as rows
use Rattle.netlist.specs.declared.parts.Clock as clocks
use Rattle.netlist.specs.declared.parts.Init.TheVariants as starts
use Rattle.netlist.specs.declared.parts.Gate as gates
use Rattle.netlist.specs.declared.parts.Latch as latches
use Rattle.blif_read.specs.declared.kind.LineKind as kinds
use Rattle.blif_read.specs.declared.kind.LineKind.TheVariants as of
use Rattle.blif_read.specs.declared.models.Item.{Item}
use Rattle.blif_read.specs.declared.models.Item.TheVariants as item
use Rattle.blif_read.specs.declared.statement.Statement.{Statement}
use Rattle.blif_read.specs.declared.statement.Statement.TheVariants.{Model, Inputs, Outputs, Clocks, Names, Row, Latch, End}
use Rattle.blif_read.specs.Kinds.{kind, pin_count}
use Rattle.blif_read.specs.Statements.{lit_of, lits_of, latch_of, pins_of, output_of, statement, statement_of_kind}
use Rattle.blif_read.specs.Models.{members, inputs_in, outputs_in, clocks_in, rows_of, plane_of, gate_of, body_of, model_of, models}
use Rattle.blif_write.proofs.Faultless.{line, IsWhole, HasWholeGates, counted, row_on, row_kind}
use Rattle.blif_write.proofs.LineLemmas.{all_lines, lines_before}
use Rattle.std.proofs.lemmas.List.Folds.{map_fixed}
use Rattle.cyc_base.proofs.ListLemmas.{map-map}

-- The model of a written netlist.

-- the control of a latch
abbrev pub control_if : Option clocks.Clock → Bool → Option clocks.Clock
control_if (Some clock) true = Some clock
control_if clock clocked = None

abbrev pub latch_of_text : Parts → latches.Latch → LatchLine
latch_of_text net latch = record {
  from = signal_name net latch.from;
  output = latch.name;
  control = control_if net.clock latch.clocked;
  init = latch.init;
}

abbrev pub gate_of_text : Parts → gates.Gate → GateLine
gate_of_text net gate = record { pins = map (signal_name net) gate.pins; output = gate.name; cover = gate.cover }

abbrev pub clock_names : Parts → Option clocks.Clock → List (List ℕ)
clock_names net None = []
clock_names net (Some clock) = if list_any (bytes_eq clock.name) net.inputs then [] else clock.name ∷ []

abbrev latch_items : Parts → List latches.Latch → List Item
latch_items net ls = map (λ latch. item.Latch (latch_of_text net latch)) ls

abbrev gate_items : Parts → List gates.Gate → List Item
gate_items net gs = map (λ gate. item.Gate (gate_of_text net gate)) gs

abbrev pub model_of_text : Parts → BlifModel
model_of_text net = record {
  name = net.name;
  inputs = net.inputs;
  outputs = map (signal_name net) net.outputs;
  clocks = clock_names net net.clock;
  body = latch_items net net.latches ++ gate_items net net.gates;
}

-- What each line says.

abbrev says : List (List ℕ) → Statement
says words = statement (record { number = 0; words = words })

number_aside : (k : kinds.LineKind) (n : ℕ) (words : List (List ℕ)) → statement_of_kind k (line n words) ≡ statement_of_kind k (line 0 words)
number_aside k n words = grind arith

says_all : (n : ℕ) (ws : List (List (List ℕ))) → map statement (numbered n ws) ≡ map says ws
says_all n [] = refl
says_all n (words ∷ ws) = grind (arith, numbered (n + 1) ws, number_aside (kind (line 0 words)) n words, line 0 words, says_all (n + 1) ws)

abbrev row_said : Bool → rows.Row → Statement
row_said plane row = Row row plane

abbrev latch_said : Parts → latches.Latch → Statement
latch_said net latch = Latch (latch_of_text net latch)

abbrev gate_said : Parts → gates.Gate → List Statement
gate_said net gate = Names (map (signal_name net) gate.pins) gate.name ∷ map (row_said gate.cover.plane) gate.cover.rows

-- the line of a clock, where there is one
abbrev clocks_said : List (List ℕ) → List Statement
clocks_said [] = []
clocks_said (name ∷ names) = Clocks (name ∷ names) ∷ []

abbrev clock_said : Parts → List Statement
clock_said net = clocks_said (clock_names net net.clock)

lit_same : (lit : Lit) → lit_of (lit_byte lit) ≡ lit
lit_same lit = grind arith

lits_same : (lits : List Lit) → map lit_of (map lit_byte lits) ≡ lits
lits_same lits = map-map lit_of lit_byte lits ∙ map_fixed (λ (lit : Lit). lit_of (lit_byte lit)) lits (λ k d l. lit_same (get_or lits k d))

row_lits : (plane : Bool) (lits : List Lit) → lits_of (lits_words lits ++ plane_word plane ∷ []) ≡ lits
row_lits plane [] = refl
row_lits plane (lit ∷ lits) = lits_same (lit ∷ lits)

row_says : (plane : Bool) (row : rows.Row) → says (row_line plane row) ≡ row_said plane row
row_says plane row = grind (arith, row_kind 0 plane row.lits, row_lits plane row.lits, row_on 0 plane row.lits)

rows_say : (plane : Bool) (rs : List rows.Row) → map says (map (row_line plane) rs) ≡ map (row_said plane) rs
rows_say plane [] = refl
rows_say plane (row ∷ rs) = rw (row_says plane row, rows_say plane rs) refl

front_of : (names : List (List ℕ)) (last : List ℕ) → pins_of (names ++ last ∷ []) ≡ names
front_of names last = ap (λ n. take n (names ++ last ∷ [])) (counted names last) ∙ take_at names (last ∷ []) (length names) refl

last_is : (names : List (List ℕ)) (last : List ℕ) → output_of (names ++ last ∷ []) ≡ last
last_is names last = get_or_at names last [] [] (pin_count (names ++ last ∷ [])) (sym (counted names last))

gate_says : (net : Parts) (gate : gates.Gate) → map says (gate_lines net gate) ≡ gate_said net gate
gate_says net gate =
    let names = map (signal_name net) gate.pins in
    rw (front_of names gate.name, last_is names gate.name, rows_say gate.cover.plane gate.cover.rows) refl

gates_say : (net : Parts) (gs : List gates.Gate) → map says (flat_map (gate_lines net) gs) ≡ flat_map (gate_said net) gs
gates_say net [] = refl
gates_say net (gate ∷ gs) = grind (arith, map-append says (gate_lines net gate) (flat_map (gate_lines net) gs), gate_says net gate, gates_say net gs)

-- no clock is named `NIL`
abbrev pub IsNamed : Option clocks.Clock → Type 0
IsNamed None = Unit {0}
IsNamed (Some clock) = bytes_eq clock.name (codes "NIL") ≡ false

init_same : (from name : List ℕ) (init : Init) → latch_of (from ∷ name ∷ init_word init ∷ []) ≡ record { from = from; output = name; control = None; init = init }
init_same from name init = grind arith

abbrev clock_with : Edge → List ℕ → clocks.Clock
clock_with edge name = record { edge = edge; name = name }

control_same : (from name : List ℕ) (edge : Edge) (clock : List ℕ) (init : Init) → bytes_eq clock (codes "NIL") ≡ false
    → latch_of (from ∷ name ∷ edge_word edge ∷ clock ∷ init_word init ∷ [])
    ≡ record { from = from; output = name; control = Some (clock_with edge clock); init = init }
control_same from name edge clock init named = grind arith

latch_same : (from name : List ℕ) (clock : Option clocks.Clock) (clocked : Bool) (init : Init) → IsNamed clock
    → latch_of (from ∷ name ∷ (control_words clock clocked ++ init_word init ∷ []))
    ≡ record { from = from; output = name; control = control_if clock clocked; init = init }
latch_same from name None clocked init named = init_same from name init
latch_same from name (Some clock) false init named = init_same from name init
latch_same from name (Some clock) true init named = control_same from name clock.edge clock.name init named

latch_says : (net : Parts) (latch : latches.Latch) → IsNamed net.clock → says (latch_line net latch) ≡ latch_said net latch
latch_says net latch named = grind (arith, latch_same (signal_name net latch.from) latch.name net.clock latch.clocked latch.init named)

latches_say : (net : Parts) (ls : List latches.Latch) → IsNamed net.clock → map says (map (latch_line net) ls) ≡ map (latch_said net) ls
latches_say net [] named = refl
latches_say net (latch ∷ ls) named = rw (latch_says net latch named, latches_say net ls named) refl

clock_says : (net : Parts) (clock : Option clocks.Clock) → map says (clock_lines net clock) ≡ clocks_said (clock_names net clock)
clock_says net clock = grind arith

-- what the lines of a netlist say, and behind their end others
abbrev body_said : Parts → List Statement → List Statement
body_said net more = map (latch_said net) net.latches ++ (flat_map (gate_said net) net.gates ++ End ∷ more)

all_said : (net : Parts) (ws : List (List (List ℕ))) → IsNamed net.clock → map says (lines_of net ++ ws)
    ≡ Model net.name ∷ Inputs net.inputs ∷ Outputs (map (signal_name net) net.outputs) ∷ (clock_said net ++ body_said net (map says ws))
all_said net ws named =
    let end : List (List (List ℕ)) = (codes ".end" ∷ []) ∷ ws in
    let gs = all_gate_lines net ++ end in
    grind (arith, lines_before net ws, map-append says (clock_lines net net.clock) (latch_lines net ++ gs), clock_says net net.clock, map-append says (latch_lines net) gs, latches_say net net.latches named, map-append says (all_gate_lines net) end, gates_say net net.gates)

-- The statements lie in one model, which ends at the last.

clock_members : (names : List (List ℕ)) (rest : List Statement) → members (clocks_said names ++ rest) ≡ clocks_said names ++ members rest
clock_members [] rest = refl
clock_members (name ∷ names) rest = refl

latch_members : (net : Parts) (ls : List latches.Latch) (rest : List Statement) → members (map (latch_said net) ls ++ rest) ≡ map (latch_said net) ls ++ members rest
latch_members net [] rest = refl
latch_members net (latch ∷ ls) rest = ap (λ said. latch_said net latch ∷ said) (latch_members net ls rest)

row_members : (plane : Bool) (rs : List rows.Row) (rest : List Statement) → members (map (row_said plane) rs ++ rest) ≡ map (row_said plane) rs ++ members rest
row_members plane [] rest = refl
row_members plane (row ∷ rs) rest = ap (λ said. row_said plane row ∷ said) (row_members plane rs rest)

gate_members : (net : Parts) (gs : List gates.Gate) (rest : List Statement) → members (flat_map (gate_said net) gs ++ rest) ≡ flat_map (gate_said net) gs ++ members rest
gate_members net [] rest = refl
gate_members net (gate ∷ gs) rest =
    let more = flat_map (gate_said net) gs in
    grind (arith, append_assoc (gate_said net gate) more rest, row_members gate.cover.plane gate.cover.rows (more ++ rest), gate_members net gs rest, append_assoc (gate_said net gate) more (members rest))

clock_models : (names : List (List ℕ)) (rest : List Statement) → models (clocks_said names ++ rest) ≡ models rest
clock_models [] rest = refl
clock_models (name ∷ names) rest = refl

latch_models : (net : Parts) (ls : List latches.Latch) (rest : List Statement) → models (map (latch_said net) ls ++ rest) ≡ models rest
latch_models net [] rest = refl
latch_models net (latch ∷ ls) rest = latch_models net ls rest

row_models : (plane : Bool) (rs : List rows.Row) (rest : List Statement) → models (map (row_said plane) rs ++ rest) ≡ models rest
row_models plane [] rest = refl
row_models plane (row ∷ rs) rest = row_models plane rs rest

gate_models : (net : Parts) (gs : List gates.Gate) (rest : List Statement) → models (flat_map (gate_said net) gs ++ rest) ≡ models rest
gate_models net [] rest = refl
gate_models net (gate ∷ gs) rest =
    let more = flat_map (gate_said net) gs in
    rw (append_assoc (gate_said net gate) more rest, row_models gate.cover.plane gate.cover.rows (more ++ rest), gate_models net gs rest) refl

-- What a model collects of them, where latches and gates give nothing.

module _ (f : Statement → List (List ℕ)) (no_latch : (l : LatchLine) → f (Latch l) ≡ []) (no_names : (pins : List (List ℕ)) (output : List ℕ) → f (Names pins output) ≡ [])
    (no_row : (row : rows.Row) (plane : Bool) → f (Row row plane) ≡ []) where
  nothing_front : (said : Statement) (rest : List Statement) → f said ≡ [] → flat_map f rest ≡ [] → flat_map f (said ∷ rest) ≡ []
  nothing_front said rest e h = ap (λ found. found ++ flat_map f rest) e ∙ h

  latches_nothing : (net : Parts) (ls : List latches.Latch) (rest : List Statement) → flat_map f rest ≡ [] → flat_map f (map (latch_said net) ls ++ rest) ≡ []
  latches_nothing net [] rest h = h
  latches_nothing net (latch ∷ ls) rest h = nothing_front (latch_said net latch) _ (no_latch _) (latches_nothing net ls rest h)

  rows_nothing : (plane : Bool) (rs : List rows.Row) (rest : List Statement) → flat_map f rest ≡ [] → flat_map f (map (row_said plane) rs ++ rest) ≡ []
  rows_nothing plane [] rest h = h
  rows_nothing plane (row ∷ rs) rest h = nothing_front (row_said plane row) _ (no_row row plane) (rows_nothing plane rs rest h)

  gates_nothing : (net : Parts) (gs : List gates.Gate) → flat_map f (flat_map (gate_said net) gs) ≡ []
  gates_nothing net [] = refl
  gates_nothing net (gate ∷ gs) =
      grind (arith, nothing_front (Names (map (signal_name net) gate.pins) gate.name) _ (no_names _ _) (rows_nothing gate.cover.plane gate.cover.rows _ (gates_nothing net gs)), rows_nothing gate.cover.plane gate.cover.rows _ (gates_nothing net gs), gates_nothing net gs)

  pub body_nothing : (net : Parts) → flat_map f (map (latch_said net) net.latches ++ flat_map (gate_said net) net.gates) ≡ []
  body_nothing net = latches_nothing net net.latches _ (gates_nothing net net.gates)

inputs_nothing : (names : List (List ℕ)) (rest : List Statement) → flat_map inputs_in (clocks_said names ++ rest) ≡ flat_map inputs_in rest
inputs_nothing [] rest = refl
inputs_nothing (name ∷ names) rest = refl

outputs_nothing : (names : List (List ℕ)) (rest : List Statement) → flat_map outputs_in (clocks_said names ++ rest) ≡ flat_map outputs_in rest
outputs_nothing [] rest = refl
outputs_nothing (name ∷ names) rest = refl

clocks_there : (names : List (List ℕ)) (rest : List Statement) → flat_map clocks_in (clocks_said names ++ rest) ≡ names ++ flat_map clocks_in rest
clocks_there [] rest = refl
clocks_there (name ∷ names) rest = refl

clock_body : (names : List (List ℕ)) (rest : List Statement) → body_of (clocks_said names ++ rest) ≡ body_of rest
clock_body [] rest = refl
clock_body (name ∷ names) rest = refl

-- The items of the body.

latches_body : (net : Parts) (ls : List latches.Latch) (rest : List Statement) → body_of (map (latch_said net) ls ++ rest) ≡ latch_items net ls ++ body_of rest
latches_body net [] rest = refl
latches_body net (latch ∷ ls) rest = ap (λ items. item.Latch (latch_of_text net latch) ∷ items) (latches_body net ls rest)

rows_body : (plane : Bool) (rs : List rows.Row) (rest : List Statement) → body_of (map (row_said plane) rs ++ rest) ≡ body_of rest
rows_body plane [] rest = refl
rows_body plane (row ∷ rs) rest = rows_body plane rs rest

-- the rows of a cover end where these statements begin
record StartsNoRow (rest : List Statement) : Type 0 where
  rows : rows_of rest ≡ []
  plane : plane_of rest ≡ true

starts_no_row : (net : Parts) (gs : List gates.Gate) → StartsNoRow (flat_map (gate_said net) gs)
starts_no_row net [] = record { rows = refl; plane = refl }
starts_no_row net (gate ∷ gs) = record { rows = refl; plane = refl }

rows_are : (plane : Bool) (rs : List rows.Row) (rest : List Statement) → StartsNoRow rest → rows_of (map (row_said plane) rs ++ rest) ≡ rs
rows_are plane [] rest none = none.rows
rows_are plane (row ∷ rs) rest none = ap (λ more. row ∷ more) (rows_are plane rs rest none)

plane_is : (plane : Bool) (rs : List rows.Row) (rest : List Statement) → StartsNoRow rest → (rs ≡ [] → plane ≡ true) → plane_of (map (row_said plane) rs ++ rest) ≡ plane
plane_is plane [] rest none on = none.plane ∙ sym (on refl)
plane_is plane (row ∷ rs) rest none on = refl

gate_same : (net : Parts) (gate : gates.Gate) (rest : List Statement) → IsWhole gate → StartsNoRow rest
    → gate_of (map (signal_name net) gate.pins) gate.name (map (row_said gate.cover.plane) gate.cover.rows ++ rest) ≡ gate_of_text net gate
gate_same net gate rest whole none = grind (arith, length-map gate.pins (signal_name net), plane_is gate.cover.plane gate.cover.rows rest none whole.cover.plane, rows_are gate.cover.plane gate.cover.rows rest none)

gates_body : (net : Parts) (gs : List gates.Gate) → All IsWhole gs → body_of (flat_map (gate_said net) gs) ≡ gate_items net gs
gates_body net [] whole = refl
gates_body net (gate ∷ gs) whole =
    let rest = flat_map (gate_said net) gs in
    grind (arith, gate_same net gate rest (All-head IsWhole gate gs whole) (starts_no_row net gs), All-head IsWhole gate gs whole, starts_no_row net gs, rows_body gate.cover.plane gate.cover.rows rest, gates_body net gs (All-tail IsWhole gate gs whole), All-tail IsWhole gate gs whole)

-- The whole model.

abbrev inner : Parts → List Statement
inner net = map (latch_said net) net.latches ++ flat_map (gate_said net) net.gates

inner_members : (net : Parts) (more : List Statement) → members (clock_said net ++ body_said net more) ≡ clock_said net ++ inner net
inner_members net more =
    let end : List Statement = End ∷ more in
    grind (arith, clock_members (clock_names net net.clock) (body_said net more), latch_members net net.latches (flat_map (gate_said net) net.gates ++ end), gate_members net net.gates end, append-nil (flat_map (gate_said net) net.gates))

models_behind : (net : Parts) (more : List Statement) → models (clock_said net ++ body_said net more) ≡ models more
models_behind net more =
    let end : List Statement = End ∷ more in
    grind (arith, clock_models (clock_names net net.clock) (body_said net more), latch_models net net.latches (flat_map (gate_said net) net.gates ++ end), gate_models net net.gates end)

model_is : (net : Parts) → All IsWhole net.gates
    → model_of net.name (Inputs net.inputs ∷ Outputs (map (signal_name net) net.outputs) ∷ (clock_said net ++ inner net)) ≡ model_of_text net
model_is net whole =
    let rest = clock_said net ++ inner net in
    let outs = map (signal_name net) net.outputs in
    let no_inputs : flat_map inputs_in rest ≡ [] =
    inputs_nothing (clock_names net net.clock) (inner net) ∙ body_nothing inputs_in (λ l. refl) (λ p o. refl) (λ r b. refl) net in
    let no_outputs : flat_map outputs_in rest ≡ [] =
    outputs_nothing (clock_names net net.clock) (inner net) ∙ body_nothing outputs_in (λ l. refl) (λ p o. refl) (λ r b. refl) net in
    let the_clocks : flat_map clocks_in rest ≡ clock_names net net.clock =
    clocks_there (clock_names net net.clock) (inner net)
    ∙ ap (λ more. clock_names net net.clock ++ more) (body_nothing clocks_in (λ l. refl) (λ p o. refl) (λ r b. refl) net)
    ∙ append-nil (clock_names net net.clock) in
    let the_body : body_of rest ≡ latch_items net net.latches ++ gate_items net net.gates =
    clock_body (clock_names net net.clock) (inner net)
    ∙ latches_body net net.latches (flat_map (gate_said net) net.gates)
    ∙ ap (λ items. latch_items net net.latches ++ items) (gates_body net net.gates whole) in
    rw (no_inputs, no_outputs, the_clocks, the_body, append-nil net.inputs, append-nil outs) refl

first_model : (net : Parts) (ws : List (List (List ℕ))) → All IsWhole net.gates → IsNamed net.clock
    → models (map says (lines_of net ++ ws)) ≡ model_of_text net ∷ models (map says ws)
first_model net ws whole named = grind (arith, all_said net ws named, inner_members net (map says ws), model_is net whole, models_behind net (map says ws))

pub record IsSayable (net : Parts) : Type 0 where
  pub whole : HasWholeGates net
  pub named : IsNamed net.clock

all_models : (nets : List Parts) → All IsSayable nets → models (map says (all_lines nets)) ≡ map model_of_text nets
all_models [] each = refl
all_models (net ∷ nets) each =
    let first = All-head IsSayable net nets each in
    first_model net (all_lines nets) first.whole first.named ∙ ap (λ more. model_of_text net ∷ more) (all_models nets (All-tail IsSayable net nets each))

pub models_are : (nets : List Parts) → All IsSayable nets → models (map statement (numbered 1 (all_lines nets))) ≡ map model_of_text nets
models_are nets each = ap models (says_all 1 (all_lines nets)) ∙ all_models nets each
