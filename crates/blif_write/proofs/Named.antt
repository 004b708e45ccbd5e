-- Each line of a written netlist has words, all of which are names.
use Rattle.std.proofs.Common.{◌≡◌, ◌≢◌, ℕ, Bool, true, List, [], ◌∷◌, ◌++◌, map, refl, arith, length, get_or}
use Rattle.blif_write.proofs.Common.{All, IfSome, flat_map, Option, All-head, All-tail, Sig, Lit, Clock, Edge, Init, Gate, Latch, Parts, signal_names, driven_names, IsNetlist, IsClockName, signal_name, clock_lines, edge_word, init_word, control_words, latch_line, latch_lines, lit_byte, plane_word, lits_words, row_line, gate_lines, all_gate_lines, lines_of}
use Rattle.std.specs.Prelude.{codes}
use Rattle.std.proofs.lemmas.List.Elements.{All-nil, All-cons, All-append, All-get_or, All-map, All-weaker, All-take, All-drop}
use Rattle.cyc_base.specs.Names.{IsBlifByte, IsBlifName}
use Rattle.blif_text.proofs.WrittenLines.{IsLine}
use Rattle.cover_logic.specs.declared.row.Row.{Row}
use Rattle.netlist.specs.declared.parts.Init.TheVariants as starts
use Rattle.netlist.specs.Netlists.{IsSignal}
use Rattle.netlist.specs.Faults.{is_blif_name}
use Rattle.netlist.proofs.Decisions.{is_blif_name_decides}
use Rattle.netlist.proofs.NameLemmas.{length-signal_names}
use Rattle.blif_write.specs.Written.{head_lines}
use Rattle.std.proofs.lemmas.List.{take_at, drop_at}

cons_filled : {X : Type 0} (x : X) (xs : List X) → (x ∷ xs) ≢ []
cons_filled x xs e = cc

constant : (word : List ℕ) → is_blif_name word ≡ true → IsBlifName word
constant word e = (is_blif_name_decides word).0 e

-- a line of a directive and names
line_of_names : (first : List ℕ) (names : List (List ℕ)) → IsBlifName first → All IsBlifName names → IsLine (first ∷ names)
line_of_names first names is each = record { filled = cons_filled first names; names = All-cons IsBlifName first names is each }

one : (word : List ℕ) → IsBlifName word → All IsBlifName (word ∷ [])
one word is = All-cons IsBlifName word [] is (All-nil IsBlifName)

front_named : (xs ys : List (List ℕ)) → All IsBlifName (xs ++ ys) → All IsBlifName xs
front_named xs ys each = rw (take_at xs ys (length xs) refl) at (All-take IsBlifName (length xs) (xs ++ ys) each)

back_named : (xs ys : List (List ℕ)) → All IsBlifName (xs ++ ys) → All IsBlifName ys
back_named xs ys each = rw (drop_at xs ys (length xs) refl) at (All-drop IsBlifName (length xs) (xs ++ ys) each)

signal_named : (net : Parts) → IsNetlist net → (s : Sig) → IsSignal net s → IsBlifName (signal_name net s)
signal_named net valid s is = All-get_or IsBlifName (signal_names net) s.0 [] (omega (arith, is, length-signal_names net)) valid.names

signals_named : (net : Parts) → IsNetlist net → (sigs : List Sig) → All (IsSignal net) sigs → All IsBlifName (map (signal_name net) sigs)
signals_named net valid sigs each = grind (arith, All-map IsBlifName (signal_name net) sigs, All-weaker (IsSignal net), signal_named net valid)

driven_named : (net : Parts) → IsNetlist net → All IsBlifName (driven_names net)
driven_named net valid = back_named net.inputs (driven_names net) valid.names

-- The head.

clock_named : (net : Parts) (clock : Option Clock) → IfSome clock (λ clock. IsClockName net clock.name) → All IsLine (clock_lines net clock)
clock_named net clock is = grind arith

-- Latches.

edge_named : (edge : Edge) → IsBlifName (edge_word edge)
edge_named edge = grind arith

init_named : (init : Init) → IsBlifName (init_word init)
init_named init = grind arith

control_named : (net : Parts) (clock : Option Clock) (clocked : Bool) (init : Init) → IfSome clock (λ clock. IsClockName net clock.name)
    → All IsBlifName (control_words clock clocked ++ init_word init ∷ [])
control_named net clock clocked init is = grind (arith, one, init_named, All-cons, edge_named)

latch_named : (net : Parts) (latch : Latch) → IsNetlist net → IsSignal net latch.from → IsBlifName latch.name → IsLine (latch_line net latch)
latch_named net latch valid from name =
    let words = control_words net.clock latch.clocked ++ init_word latch.init ∷ [] in
    line_of_names (codes ".latch") (signal_name net latch.from ∷ latch.name ∷ words) (constant (codes ".latch") refl)
    (All-cons IsBlifName (signal_name net latch.from) (latch.name ∷ words) (signal_named net valid latch.from from)
    (All-cons IsBlifName latch.name words name (control_named net net.clock latch.clocked latch.init valid.clock)))

latches_named : (net : Parts) (ls : List Latch) → IsNetlist net → All (λ latch. IsSignal net latch.from) ls
    → All IsBlifName (map (λ latch. latch.name) ls) → All IsLine (map (latch_line net) ls)
latches_named net [] valid from names = All-nil IsLine
latches_named net (latch ∷ ls) valid from names =
    let S = λ (latch : Latch). IsSignal net latch.from in
    let more : List (List ℕ) = map (λ (latch : Latch). latch.name) ls in
    All-cons IsLine (latch_line net latch) (map (latch_line net) ls)
    (latch_named net latch valid (All-head S latch ls from) (All-head IsBlifName latch.name more names))
    (latches_named net ls valid (All-tail S latch ls from) (All-tail IsBlifName latch.name more names))

-- Gates.

lit_named : (lit : Lit) → IsBlifByte (lit_byte lit)
lit_named lit = grind arith

lits_bytes : (lits : List Lit) → All IsBlifByte (map lit_byte lits)
lits_bytes lits = All-map IsBlifByte lit_byte lits (λ k d l. lit_named (get_or lits k d))

plane_named : (plane : Bool) → IsBlifName (plane_word plane)
plane_named plane = grind arith

row_named : (plane : Bool) (row : Row) → IsLine (row_line plane row)
row_named plane row = by row.lits
  where
    by : (lits : List Lit) → IsLine (lits_words lits ++ plane_word plane ∷ [])
    by [] = line_of_names (plane_word plane) [] (plane_named plane) (All-nil IsBlifName)
    by (lit ∷ lits) =
        line_of_names (map lit_byte (lit ∷ lits)) (plane_word plane ∷ [])
        (cons_filled (lit_byte lit) (map lit_byte lits), lits_bytes (lit ∷ lits))
        (one (plane_word plane) (plane_named plane))

rows_named : (plane : Bool) (rows : List Row) → All IsLine (map (row_line plane) rows)
rows_named plane rows = All-map IsLine (row_line plane) rows (λ k d l. row_named plane (get_or rows k d))

gates_named : (net : Parts) (gs : List Gate) → IsNetlist net → All (λ gate. All (IsSignal net) gate.pins) gs
    → All IsBlifName (map (λ gate. gate.name) gs) → All IsLine (flat_map (gate_lines net) gs)
gates_named net [] valid pins names = All-nil IsLine
gates_named net (gate ∷ gs) valid pins names =
    let S = λ (gate : Gate). All (IsSignal net) gate.pins in
    let more : List (List ℕ) = map (λ (gate : Gate). gate.name) gs in
    All-append IsLine (gate_lines net gate) (flat_map (gate_lines net) gs)
    (All-cons IsLine (codes ".names" ∷ (map (signal_name net) gate.pins ++ gate.name ∷ [])) (map (row_line gate.cover.plane) gate.cover.rows)
    (line_of_names (codes ".names") (map (signal_name net) gate.pins ++ gate.name ∷ []) (constant (codes ".names") refl)
    (All-append IsBlifName (map (signal_name net) gate.pins) (gate.name ∷ []) (signals_named net valid gate.pins (All-head S gate gs pins))
    (one gate.name (All-head IsBlifName gate.name more names))))
    (rows_named gate.cover.plane gate.cover.rows))
    (gates_named net gs valid (All-tail S gate gs pins) (All-tail IsBlifName gate.name more names))

-- The whole text.

pub lines_named : (net : Parts) → IsNetlist net → All IsLine (lines_of net)
lines_named net valid =
    let latch_names : List (List ℕ) = map (λ (latch : Latch). latch.name) net.latches in
    let gate_names : List (List ℕ) = map (λ (gate : Gate). gate.name) net.gates in
    let driven = driven_named net valid in
    let outs = map (signal_name net) net.outputs in
    let clock = clock_lines net net.clock in
    let end : List (List (List ℕ)) = (codes ".end" ∷ []) ∷ [] in
    All-append IsLine (head_lines net) (latch_lines net ++ (all_gate_lines net ++ end))
    (All-cons IsLine (codes ".model" ∷ net.name ∷ []) ((codes ".inputs" ∷ net.inputs) ∷ (codes ".outputs" ∷ outs) ∷ clock) (line_of_names (codes ".model") (net.name ∷ []) (constant (codes ".model") refl) (one net.name valid.name))
    (All-cons IsLine (codes ".inputs" ∷ net.inputs) ((codes ".outputs" ∷ outs) ∷ clock) (line_of_names (codes ".inputs") net.inputs (constant (codes ".inputs") refl) (front_named net.inputs (driven_names net) valid.names))
    (All-cons IsLine (codes ".outputs" ∷ outs) clock (line_of_names (codes ".outputs") outs (constant (codes ".outputs") refl) (signals_named net valid net.outputs valid.outputs))
    (clock_named net net.clock valid.clock))))
    (All-append IsLine (latch_lines net) (all_gate_lines net ++ end) (latches_named net net.latches valid valid.sources (front_named latch_names gate_names driven))
    (All-append IsLine (all_gate_lines net) end (gates_named net net.gates valid valid.pins (back_named latch_names gate_names driven))
    (All-cons IsLine (codes ".end" ∷ []) [] (line_of_names (codes ".end") [] (constant (codes ".end") refl) (All-nil IsBlifName)) (All-nil IsLine))))
