-- How the model is made: what is kept of the netlist and of the old assumption, and gates that tell of rows.
use Rattle.std.specs.Prelude.{◌≡◌, ◌+◌, ◌-◌, ◌*◌, ◌++◌, ◌==◌, ◌<◌, ℕ, zero, suc, Bool, true, false, nat_lt, if◌then◌else◌, List, [], ◌∷◌, length, map, filter, take, drop, All, Option, Some, None, option_map, codes, slice_index_or}
use Rattle.std.specs.List.{range_with_len, sum_by}
use Rattle.std.specs.Fmt.{decimal}
use Rattle.std.specs.Option.{option_map_or}
use Rattle.care_rows.specs.declared.telling.TheConstants.{PIECE}
use Rattle.cyc_base.specs.declared.limits.TheConstants.{MAX_FLAT_ITEMS}
use Rattle.cyc_base.specs.declared.sig.Sig.{Sig}
use Rattle.cover_logic.specs.Covers.{Cover}
use Rattle.cover_logic.specs.declared.row.Lit.{Lit}
use Rattle.cover_logic.specs.declared.row.Lit.TheVariants as lit
use Rattle.netlist.specs.Netlists.{count, gate_at, signal, signal_names, is_marked, columns}
use Rattle.netlist.specs.declared.parts.Gate.{Gate}
use Rattle.netlist.specs.declared.parts.Parts.{Parts}
use Rattle.loops.specs.Cones.{IsConeOf}
use Rattle.care_sets.specs.Care.{CareSet}
use Rattle.care_rows.specs.Restricted.{gates_of_rows, telling_gates}
use Rattle.care_rows.specs.declared.fault.RestrictFault.{RestrictFault}
use Rattle.care_rows.specs.declared.fault.RestrictFault.TheVariants.{TooLarge}
use Rattle.care_rows.specs.declared.keeping.Kept.{Kept}
use Rattle.care_rows.specs.declared.rows.Row.{Row}
use Rattle.care_rows.specs.declared.rows.WireValue.{WireValue}

-- ---- what is kept of the netlist

-- a signal that is a column is marked
abbrev pub IsUsed : List Bool → Sig → Type 0
IsUsed used s = s.0 < length used → is_marked used s.0 ≡ true

-- what is marked stays marked
pub record KeepsMarks (old new : List Bool) : Type 0 where
  pub width : length new ≡ length old
  pub keeps : (s : ℕ) → is_marked old s ≡ true → is_marked new s ≡ true

-- marked are the columns that the assumption names, those that are wires of rows, and those on pins of the marked gates
pub record AreUsed (net : Parts) (assumed : List ℕ) (rows : List Row) (cone used : List Bool) : Type 0 where
  pub width : length used ≡ columns net
  pub assumed_used : All (λ column. is_marked used column ≡ true) assumed
  pub wires : All (λ row. All (λ e. IsUsed used e.wire) row.values) rows
  pub pins : (n : ℕ) → n < length net.gates → is_marked cone n ≡ true → All (IsUsed used) (gate_at net n).pins

-- the marked ones among the first n, and how many they are
abbrev pub marked_below : List Bool → ℕ → List ℕ
marked_below marks n = filter (is_marked marks) (range_with_len 0 n)

-- one of them, if it is marked
abbrev pub if_marked : List Bool → ℕ → List ℕ
if_marked marks n = if is_marked marks n then n ∷ [] else []

abbrev pub rank : List Bool → ℕ → ℕ
rank marks n = length (marked_below marks n)

abbrev pub all_marked : List Bool → List ℕ
all_marked marks = marked_below marks (length marks)

-- places one after another for what is marked, from `first` on; one that isn't has the place of the next one that is
abbrev pub places_from : List Bool → ℕ → List ℕ
places_from marks first = map (λ n. first + rank marks n) (range_with_len 0 (length marks))

-- the place of each signal: first those of the marked columns, and then those of the marked gates
abbrev pub places : List Bool → List Bool → List ℕ
places used cone = places_from used 0 ++ places_from cone (rank used (length used))

-- how many signals are kept
abbrev pub kept_signals : List Bool → List Bool → ℕ
kept_signals used cone = rank used (length used) + rank cone (length cone)

abbrev pub kept_signal : List ℕ → Sig → Sig
kept_signal table s = signal (slice_index_or table s.0 0)

abbrev pub column_name : Parts → ℕ → List ℕ
column_name net column = slice_index_or (signal_names net) column []

abbrev pub kept_gate : Parts → List ℕ → ℕ → Gate
kept_gate net table n = record { name = (gate_at net n).name; pins = map (kept_signal table) (gate_at net n).pins; cover = (gate_at net n).cover }

-- ---- what is kept of the old assumption

-- names that are added have a mark, a run of `~` that stands in no name of the netlist
abbrev pub marked_name : List ℕ → List ℕ → List ℕ → List ℕ
marked_name text mark own = text ++ (mark ++ own)

-- the columns' places, by the inputs
abbrev pub places_of : List ℕ → List ℕ → List ℕ
places_of table assumed = map (λ column. slice_index_or table column 0) assumed

-- a signal of the assumption: an input by its place, and a gate by the place of the first one
abbrev pub assumed_signal : List ℕ → ℕ → Sig → Sig
assumed_signal inputs first s = if nat_lt s.0 (length inputs) then signal (slice_index_or inputs s.0 0) else signal (first + (s.0 - length inputs))

abbrev pub assumed_gate : List ℕ → ℕ → List ℕ → Parts → ℕ → Gate
assumed_gate inputs first mark old n = record {
  name = marked_name (codes "assume") mark (gate_at old n).name;
  pins = map (assumed_signal inputs first) (gate_at old n).pins;
  cover = (gate_at old n).cover;
}

abbrev pub assumed_gates : List ℕ → ℕ → List ℕ → Option Parts → List Gate
assumed_gates inputs first mark None = []
assumed_gates inputs first mark (Some old) = map (assumed_gate inputs first mark old) (range_with_len 0 (length old.gates))

-- a wire with a value
abbrev pub wire_value : Sig → Bool → WireValue
wire_value wire value = record { wire = wire; value = value }

-- the old output should be 1
abbrev pub assumed_output : List ℕ → ℕ → Option Parts → List WireValue
assumed_output inputs first None = []
assumed_output inputs first (Some old) = wire_value (assumed_signal inputs first (slice_index_or old.outputs 0 (signal 0))) true ∷ []

-- ---- gates that tell whether wires have their values

abbrev pub literal : WireValue → Lit
literal e = if e.value then lit.One else lit.Zero

-- 1 where all wires have their values
abbrev pub and_cover : List WireValue → Cover
and_cover wires = record { pins = length wires; plane = true; rows = record { lits = map literal wires } ∷ [] }

abbrev pub and_gate : List ℕ → List WireValue → Gate
and_gate name wires = record { name = name; pins = map (λ e. e.wire) wires; cover = and_cover wires }

-- the wires of the gate with this number, of those that tell of wires: each but the first reads the one before it
abbrev pub piece : List WireValue → ℕ → List WireValue
piece wires k = take PIECE (drop (PIECE * k) wires)

abbrev pub link : ℕ → ℕ → List WireValue
link first zero = []
link first (suc k) = wire_value (signal (first + k)) true ∷ []

abbrev pub linked_piece : ℕ → List WireValue → ℕ → List WireValue
linked_piece first wires k = link first k ++ piece wires k

-- the names of these gates by their numbers, of which there are so many: `row1`, `row2` and so on with the mark, and that of the last
abbrev pub telling_name : List ℕ → ℕ → ℕ → List ℕ
telling_name mark total number = if suc number == total then marked_name (codes "harmless") mark [] else marked_name (codes "row" ++ decimal (suc number)) mark []

-- Gates that tell whether all wires have their values: the first has the signal `first`, and this number among all such.
abbrev pub telling : List ℕ → ℕ → ℕ → ℕ → List WireValue → List Gate
telling mark total base number wires = map (λ k. and_gate (telling_name mark total (number + k)) (linked_piece (base + number) wires k)) (range_with_len 0 (telling_gates (length wires)))

-- how many tell of rows
abbrev pub telling_of_rows : List Row → ℕ
telling_of_rows rows = sum_by (λ row. telling_gates (length row.values)) rows

abbrev pub placed_row : List ℕ → Row → List WireValue
placed_row table row = map (λ e. wire_value (kept_signal table e.wire) e.value) row.values

-- those that tell of each row
abbrev pub row_gates : List ℕ → ℕ → ℕ → List ℕ → ℕ → List Row → List Gate
row_gates mark total base table number [] = []
row_gates mark total base table number (row ∷ rows) = telling mark total base number (placed_row table row) ++ row_gates mark total base table (number + telling_gates (length row.values)) rows

-- the last gate of each row should be 0
abbrev pub row_outputs : ℕ → ℕ → List Row → List WireValue
row_outputs base number [] = []
row_outputs base number (row ∷ rows) = wire_value (signal (base + number + telling_gates (length row.values) - 1)) false ∷ row_outputs base (number + telling_gates (length row.values)) rows

-- ---- the model

-- the model would have so many gates, too many
pub record IsOver (size : ℕ) (fault : RestrictFault) : Type 0 where
  pub over : MAX_FLAT_ITEMS < size
  pub is : fault ≡ TooLarge size

-- what the model is made of: marks of the columns and gates that are kept, and the old assumption with the columns of its inputs
pub record Plan : Type 0 where
  pub net : Parts
  pub rows : List Row
  pub used : List Bool
  pub cone : List Bool
  pub old : Option Parts
  pub assumed : List ℕ

abbrev pub table_of : Plan → List ℕ
table_of p = places p.used p.cone

abbrev pub inputs_of : Plan → List ℕ
inputs_of p = places_of (table_of p) p.assumed

-- the signals of the first gate of the assumption, and of the first gate that tells
abbrev pub first_assumed : Plan → ℕ
first_assumed p = kept_signals p.used p.cone

abbrev pub assumed_size : Option Parts → ℕ
assumed_size old = option_map_or (λ net. length net.gates) old 0

abbrev pub base_of : Plan → ℕ
base_of p = first_assumed p + assumed_size p.old

-- how many gates tell
abbrev pub total_of : Plan → ℕ
total_of p = telling_of_rows p.rows + telling_gates (option_map_or (λ net. 1) p.old 0 + length p.rows)

-- all that should hold: the old output is 1, and that of each row is 0
abbrev pub conditions : Plan → List WireValue
conditions p = assumed_output (inputs_of p) (first_assumed p) p.old ++ row_outputs (base_of p) 0 p.rows

abbrev pub kept_gates : Plan → List Gate
kept_gates p = map (kept_gate p.net (table_of p)) (all_marked p.cone)

abbrev pub old_gates : Plan → List ℕ → List Gate
old_gates p mark = assumed_gates (inputs_of p) (first_assumed p) mark p.old

abbrev pub telling_gates_of : Plan → List ℕ → List Gate
telling_gates_of p mark = row_gates mark (total_of p) (base_of p) (table_of p) 0 p.rows ++ telling mark (total_of p) (base_of p) (telling_of_rows p.rows) (conditions p)

abbrev pub model_gates : Plan → List ℕ → List Gate
model_gates p mark = kept_gates p ++ (old_gates p mark ++ telling_gates_of p mark)

abbrev pub model_of : Plan → List ℕ → Parts
model_of p mark = record {
  name = codes "assume";
  inputs = map (column_name p.net) (all_marked p.used);
  clock = None;
  latches = [];
  gates = model_gates p mark;
  outputs = signal (base_of p + total_of p - 1) ∷ [];
}

-- how many gates the model has
abbrev pub size_of : Plan → ℕ
size_of p = length (all_marked p.cone) + assumed_size p.old + total_of p

abbrev pub assumed_columns : CareSet → List ℕ
assumed_columns care = option_map_or (λ model. model.columns) care.assume []

abbrev pub plan_by : Parts → CareSet → List Row → List Bool → List Bool → Plan
plan_by net care rows used cone = record { net = net; rows = rows; used = used; cone = cone; old = option_map (λ model. model.net) care.assume; assumed = assumed_columns care }

-- what is marked, with its places
pub record IsPlaced (used cone : List Bool) (kept : Kept) : Type 0 where
  pub columns_are : kept.columns.items ≡ used
  pub gates_are : kept.gates.items ≡ cone
  pub table_is : kept.places.items ≡ places used cone
  pub inputs_are : kept.inputs ≡ rank used (length used)
  pub signals_are : kept.signals ≡ kept_signals used cone

-- what is kept, and where it stands
pub record IsKept (net : Parts) (assumed : List ℕ) (rows : List Row) (kept : Kept) : Type 0 where
  pub cone_is : IsConeOf net (gates_of_rows net rows) kept.gates.items
  pub used_are : AreUsed net assumed rows kept.gates.items kept.columns.items
  pub table_is : kept.places.items ≡ places kept.columns.items kept.gates.items
  pub inputs_are : kept.inputs ≡ rank kept.columns.items (length kept.columns.items)
  pub signals_are : kept.signals ≡ kept_signals kept.columns.items kept.gates.items
  pub long : length kept.places.items ≡ count net

abbrev pub plan_of : Parts → CareSet → List Row → Kept → Plan
plan_of net care rows kept = plan_by net care rows kept.columns.items kept.gates.items
