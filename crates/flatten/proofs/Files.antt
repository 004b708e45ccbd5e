-- The walk stays within the file: its paths bind names of the file, and all that it prints names one wire.
use Rattle.std.proofs.Common.{◌≡◌, ℕ, zero, suc, ◌+◌, ◌^◌, ◌<◌, ◌≤◌, List, [], ◌∷◌, ◌++◌, length, length-append, map, refl, sym, ◌∙◌, arith, All, Contains, Some, None, Ok, Err, option_map}
use Rattle.flatten.proofs.Common.{All-nil, All-cons, All-head, All-tail, All-append, flat_map, AllByRecursion, Option, Result, Sig, Clock, Parts, BlifModel, GateLine, LatchLine, Item, Gate, Latch, Part, FlatFault, pair_names, item_names, wire_names, mark_of, Instance, climb, name_at, gate_at, clock_at, latch_at, find_model, model_at, entered, Event, gate, latch, opens, fails, events, FlatLines, flat_lines, linked_lines, signal_list, sig_of, latch_with, gate_with, netlist_by, All-weaker, All-map}
use Rattle.std.proofs.lemmas.List.Elements.{All-contains_itself, Contains-append_left, Contains-append_right, All-drop, All-take, All-same}
use Rattle.std.proofs.lemmas.List.{map-id, take_at, drop_at}
use Rattle.netlist.specs.declared.parts.Gate.{Gate as FlatGate}
use Rattle.netlist.specs.declared.parts.Latch.{Latch as FlatLatch}
use Rattle.netlist.specs.Netlists.{signal_names}
use Rattle.flatten.specs.Wires.{control_names, model_names}
use Rattle.flatten.specs.Walk.{through, events_by}
use Rattle.cyc_base.specs.declared.limits.TheConstants.{MAX_DEPTH, MAX_FLAT_ITEMS}
use Rattle.flatten.specs.Flat.{flat_from}
use Rattle.flatten.specs.Laws.{BindsAmong, NamesOneWire, LinesNameWires, WalkNamesWires, SignalsNameWires}
use Rattle.flatten.proofs.Telling.{names_tell}
use Rattle.flatten.proofs.Stepping.{lines_in, decided_lines}

-- Names of the file.

abbrev AreAmong : List (List ℕ) → List (List ℕ) → Type 0
AreAmong names xs = All (Contains names) xs

abbrev IsItemAmong : List (List ℕ) → Item → Type 0
IsItemAmong names item = AreAmong names (item_names item)

among_left : (names more xs : List (List ℕ)) → AreAmong names xs → AreAmong (names ++ more) xs
among_left names more xs = All-weaker (Contains names) (Contains (names ++ more)) (Contains-append_left names more) xs

among_right : (names more xs : List (List ℕ)) → AreAmong more xs → AreAmong (names ++ more) xs
among_right names more xs = All-weaker (Contains more) (Contains (names ++ more)) (Contains-append_right names more) xs

both_all : {A : Type 0} (P : A → Type 0) (xs ys : List A) → All P (xs ++ ys) → All P xs × All P ys
both_all P xs ys h = grind (arith, take_at xs ys (length xs), All-take P (length xs) (xs ++ ys) h, drop_at xs ys (length xs), All-drop P (length xs) (xs ++ ys) h)

names_of : (models : List BlifModel) (i : ℕ) → AreAmong (wire_names models) (model_names (model_at models i))
names_of [] i = All-nil (Contains [])
names_of (model ∷ models) zero = among_left (model_names model) (wire_names models) (model_names model) (All-contains_itself (model_names model))
names_of (model ∷ models) (suc i) = among_right (model_names model) (wire_names models) (model_names (model_at models i)) (names_of models i)

inputs_of : (models : List BlifModel) (i : ℕ) → AreAmong (wire_names models) (model_at models i).inputs
inputs_of models i = (both_all (Contains (wire_names models)) (model_at models i).inputs _ (names_of models i)).0

items_of : (models : List BlifModel) (i : ℕ) → All (IsItemAmong (wire_names models)) (model_at models i).body
items_of models i =
    let P = Contains (wire_names models) in
    let model = model_at models i in
    each model.body (both_all P model.clocks _ (both_all P model.outputs _ (both_all P model.inputs _ (names_of models i)).1).1).1
  where
    each : (items : List Item) → AreAmong (wire_names models) (flat_map item_names items) → All (IsItemAmong (wire_names models)) items
    each [] h = All-nil (IsItemAmong (wire_names models))
    each (item ∷ items) h = grind (arith, both_all (Contains (wire_names models)) (item_names item) (flat_map item_names items) h, All-cons (IsItemAmong (wire_names models)) item items, each items)

actuals_among : (names : List (List ℕ)) (pairs : List (List ℕ × List ℕ)) → AreAmong names (pair_names pairs) → All (λ p. Contains names p.1) pairs
actuals_among names [] each = All-nil (λ (p : List ℕ × List ℕ). Contains names p.1)
actuals_among names (p ∷ pairs) each =
    let more = p.1 ∷ pair_names pairs in
    let behind = All-tail (Contains names) p.0 more each in
    All-cons (λ (q : List ℕ × List ℕ). Contains names q.1) p pairs (All-head (Contains names) p.1 (pair_names pairs) behind)
    (actuals_among names pairs (All-tail (Contains names) p.1 (pair_names pairs) behind))

-- What is printed on a path of the file names one wire.

names_one : (models : List BlifModel) (path : List Instance) (name : List ℕ) → BindsAmong (wire_names models) path → Contains (wire_names models) name
    → NamesOneWire models (name_at (mark_of models) path name)
names_one models path name binds named = record {
  wire = climb path name;
  is = record { path = path; name = name; binds = binds; named = named; means = refl; prints = refl };
  only = λ other is. sym is.means ∙ names_tell (wire_names models) is.path path is.name name is.binds binds is.named named is.prints;
}

name_each : (models : List BlifModel) (path : List Instance) (names : List (List ℕ)) → BindsAmong (wire_names models) path
    → AreAmong (wire_names models) names → All (NamesOneWire models) (map (name_at (mark_of models) path) names)
name_each models path names binds each =
    All-map (NamesOneWire models) (name_at (mark_of models) path) names
    (All-weaker (Contains (wire_names models)) (λ name. NamesOneWire models (name_at (mark_of models) path name)) (λ name named. names_one models path name binds named) names each)

control_at : (m : List ℕ) (path : List Instance) (control : Option Clock) → control_names (option_map (clock_at m path) control) ≡ map (name_at m path) (control_names control)
control_at m path control = grind arith

abbrev EventNamesWires : List BlifModel → Event → Type 0
EventNamesWires models (gate g) = All (NamesOneWire models) (item_names (Gate g))
EventNamesWires models (latch l) = All (NamesOneWire models) (item_names (Latch l))
EventNamesWires models opens = Unit {0}
EventNamesWires models (fails fault) = Unit {0}

gate_names_wires : (models : List BlifModel) (path : List Instance) (g : GateLine) → BindsAmong (wire_names models) path
    → IsItemAmong (wire_names models) (Gate g) → EventNamesWires models (gate (gate_at (mark_of models) path g))
gate_names_wires models path g binds each = name_each models path (g.output ∷ g.pins) binds each

latch_names_wires : (models : List BlifModel) (path : List Instance) (l : LatchLine) → BindsAmong (wire_names models) path
    → IsItemAmong (wire_names models) (Latch l) → EventNamesWires models (latch (latch_at (mark_of models) path l))
latch_names_wires models path l binds each =
    let m = mark_of models in
    grind (arith, All-same (NamesOneWire models) (item_names (Latch (latch_at m path l))) (map (name_at m path) (l.from ∷ l.output ∷ control_names l.control)), control_at m path l.control, name_each models path (l.from ∷ l.output ∷ control_names l.control) binds each)

-- The walk: a number on its paths is at most the number of its events.

abbrev EachNamesWires : List BlifModel → List Event → Type 0
EachNamesWires models es = AllByRecursion (EventNamesWires models) es

each_append : (models : List BlifModel) (xs ys : List Event) → EachNamesWires models xs → EachNamesWires models ys → EachNamesWires models (xs ++ ys)
each_append models [] ys p q = q
each_append models (x ∷ xs) ys p q = (p.0, each_append models xs ys p.1 q)

module _ (models : List BlifModel) (deeper : List Instance → List Item → List Event) (depth : ℕ) (top : List ℕ)
    (below : (inner : List Instance) (i : ℕ) → BindsAmong (wire_names models) inner → 1 + length (deeper inner (model_at models i).body) < 2 ^ 64
    → EachNamesWires models (deeper inner (model_at models i).body)) where
  through_names : (inner : List Instance) (r : Result ℕ FlatFault) → BindsAmong (wire_names models) inner → length (through deeper models inner r) < 2 ^ 64
      → EachNamesWires models (through deeper models inner r)
  through_names inner r binds few = grind arith

  through_some : (inner : List Instance) (r : Result ℕ FlatFault) → 1 ≤ length (through deeper models inner r)
  through_some inner r = grind arith

  body_names : (path : List Instance) (n : ℕ) (items : List Item) → BindsAmong (wire_names models) path → All (IsItemAmong (wire_names models)) items
      → n + length (events_by deeper depth models top (mark_of models) path n items) < 2 ^ 64
      → EachNamesWires models (events_by deeper depth models top (mark_of models) path n items)
  body_names path n [] binds each few = tt
  body_names path n (Gate g ∷ items) binds each few =
      let file = wire_names models in (
        gate_names_wires models path g binds (All-head (IsItemAmong file) (Gate g) items each),
        body_names path n items binds (All-tail (IsItemAmong file) (Gate g) items each) (omega arith),
      )
  body_names path n (Latch l ∷ items) binds each few =
      let file = wire_names models in (
        latch_names_wires models path l binds (All-head (IsItemAmong file) (Latch l) items each),
        body_names path n items binds (All-tail (IsItemAmong file) (Latch l) items each) (omega arith),
      )
  body_names path n (Part p ∷ items) binds each few =
      let file = wire_names models in
      let o : Instance = record { number = n; part = p } in
      let first = through deeper models (o ∷ path) (entered depth models top path p) in
      let rest = events_by deeper depth models top (mark_of models) path (suc n) items in
      let some = through_some (o ∷ path) (entered depth models top path p) in
      let all = length-append first rest in
      let inner : BindsAmong file (o ∷ path) = (omega arith, actuals_among file p.pairs (All-head (IsItemAmong file) (Part p) items each), binds) in
      grind (arith, each_append models first rest, through_names (o ∷ path) (entered depth models top path p) inner, body_names path (suc n) items binds (All-tail (IsItemAmong file) (Part p) items each), All-tail (IsItemAmong file) (Part p) items each)

walk_names : (more depth : ℕ) (models : List BlifModel) (top : List ℕ) (path : List Instance) (i : ℕ) → BindsAmong (wire_names models) path
    → 1 + length (events more depth models top (mark_of models) path 1 (model_at models i).body) < 2 ^ 64
    → EachNamesWires models (events more depth models top (mark_of models) path 1 (model_at models i).body)
walk_names zero depth models top path i binds few = grind (arith, body_names models, items_of models)
walk_names (suc more) depth models top path i binds few = grind (arith, body_names models, walk_names more, items_of models)

-- The lines that the walk comes to.

abbrev GateNames : List BlifModel → GateLine → Type 0
GateNames models g = All (NamesOneWire models) (item_names (Gate g))

abbrev LatchNames : List BlifModel → LatchLine → Type 0
LatchNames models l = All (NamesOneWire models) (item_names (Latch l))

names_in : (models : List BlifModel) (es : List Event) → EachNamesWires models es → LinesNameWires models (lines_in es)
names_in models [] each = record { latches = All-nil (LatchNames models); gates = All-nil (GateNames models) }
names_in models (gate g ∷ es) each =
    let h = names_in models es each.1 in
    record { latches = h.latches; gates = All-cons (GateNames models) g (lines_in es).gates each.0 h.gates }
names_in models (latch l ∷ es) each =
    let h = names_in models es each.1 in
    record { latches = All-cons (LatchNames models) l (lines_in es).latches each.0 h.latches; gates = h.gates }
names_in models (opens ∷ es) each = names_in models es each.1
names_in models (fails fault ∷ es) each = names_in models es each.1

lines_name : (depth limit : ℕ) (models : List BlifModel) (place : ℕ) (lines : FlatLines) → 1 + limit < 2 ^ 64 → flat_lines depth limit models place ≡ Ok lines
    → LinesNameWires models lines
lines_name depth limit models place lines fits e =
    let top = (model_at models place).name in
    let es = events depth depth models top (mark_of models) [] 1 (model_at models place).body in
    grind (arith, decided_lines limit es lines e, names_in models es, walk_names)

pub walk_names_wires : WalkNamesWires
walk_names_wires models place lines e = lines_name MAX_DEPTH MAX_FLAT_ITEMS models place lines (omega arith) e

-- The signals of the flat netlist.

top_names : (models : List BlifModel) (i : ℕ) → All (NamesOneWire models) (model_at models i).inputs
top_names models i = grind (arith, map-id (model_at models i).inputs, name_each models [] (model_at models i).inputs, inputs_of models i)

latch_outputs_name : (models : List BlifModel) (sig : List ℕ → Sig) (latches : List LatchLine) → All (LatchNames models) latches
    → All (NamesOneWire models) (map (λ latch. latch.name) (map (latch_with sig) latches))
latch_outputs_name models sig latches each =
    let P = NamesOneWire models in
    All-map P (λ (latch : FlatLatch). latch.name) (map (latch_with sig) latches)
    (All-map (λ (latch : FlatLatch). P latch.name) (latch_with sig) latches
    (All-weaker (LatchNames models) (λ l. P l.output) (λ l here. All-head P l.output (control_names l.control) (All-tail P l.from (l.output ∷ control_names l.control) here)) latches each))

gate_outputs_name : (models : List BlifModel) (sig : List ℕ → Sig) (gates : List GateLine) → All (GateNames models) gates
    → All (NamesOneWire models) (map (λ gate. gate.name) (map (gate_with sig) gates))
gate_outputs_name models sig gates each =
    let P = NamesOneWire models in
    All-map P (λ (gate : FlatGate). gate.name) (map (gate_with sig) gates)
    (All-map (λ (gate : FlatGate). P gate.name) (gate_with sig) gates
    (All-weaker (GateNames models) (λ g. P g.output) (λ g here. All-head P g.output g.pins here) gates each))

signals_of : (models : List BlifModel) (i : ℕ) (lines : FlatLines) (sig : List ℕ → Sig) → LinesNameWires models lines
    → All (NamesOneWire models) (signal_names (netlist_by sig (model_at models i) lines))
signals_of models i lines sig names =
    All-append (NamesOneWire models) (model_at models i).inputs _ (top_names models i)
    (All-append (NamesOneWire models) (map (λ (latch : FlatLatch). latch.name) (map (latch_with sig) lines.latches)) (map (λ (gate : FlatGate). gate.name) (map (gate_with sig) lines.gates))
    (latch_outputs_name models sig lines.latches names.latches) (gate_outputs_name models sig lines.gates names.gates))

abbrev linked_by : BlifModel → FlatLines → Option FlatFault → Result Parts FlatFault
linked_by top lines fault = elim fault [ Some f ↦ Err f | None ↦ Ok (netlist_by (sig_of (signal_list top lines)) top lines) ]

linked_is : (top : BlifModel) (lines : FlatLines) (fault : Option FlatFault) (net : Parts) → linked_by top lines fault ≡ Ok net
    → netlist_by (sig_of (signal_list top lines)) top lines ≡ net
linked_is top lines fault net e = grind arith

linked_names : (models : List BlifModel) (i : ℕ) (r : Result FlatLines FlatFault) (net : Parts) → flat_lines MAX_DEPTH MAX_FLAT_ITEMS models i ≡ r
    → linked_lines (model_at models i) r ≡ Ok net → All (NamesOneWire models) (signal_names net)
linked_names models i r net e h = grind (arith, linked_is, signals_of, walk_names_wires)

from_found : (models : List BlifModel) (top : List ℕ) (found : Option ℕ) (net : Parts) → flat_from MAX_DEPTH MAX_FLAT_ITEMS models top found ≡ Ok net
    → All (NamesOneWire models) (signal_names net)
from_found models top found net e = grind (arith, linked_names)

pub signals_name_wires : SignalsNameWires
signals_name_wires models top net e = from_found models top (find_model models top) net e
