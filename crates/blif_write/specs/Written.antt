-- The text of a netlist: its lines, and what each line is made of.
use Rattle.std.specs.Prelude.{ℕ, Bool, true, false, List, [], ◌∷◌, ◌++◌, map, codes, if◌then◌else◌, slice_index_or, Some, None}
use Rattle.std.specs.declared.option.Option.{Option}
use Rattle.std.specs.List.{list_any, flat_map}
use Rattle.std.specs.Str.{bytes_eq}
use Rattle.cyc_base.specs.declared.sig.Sig.{Sig}
use Rattle.cover_logic.specs.declared.row.Lit.{Lit}
use Rattle.cover_logic.specs.declared.row.Lit.TheVariants.{Zero, One, Any}
use Rattle.cover_logic.specs.declared.row.Row.{Row}
use Rattle.netlist.specs.declared.parts.Clock.{Clock}
use Rattle.netlist.specs.declared.parts.Edge.{Edge}
use Rattle.netlist.specs.declared.parts.Edge.TheVariants.{Rise, Fall}
use Rattle.netlist.specs.declared.parts.Init.{Init}
use Rattle.netlist.specs.declared.parts.Init.TheVariants.{Zero as StartsAtZero, One as StartsAtOne, Either}
use Rattle.netlist.specs.declared.parts.Latch.{Latch}
use Rattle.netlist.specs.declared.parts.Gate.{Gate}
use Rattle.netlist.specs.declared.parts.Parts.{Parts}
use Rattle.netlist.specs.Netlists.{signal_names, signal_name}
use Rattle.blif_text.specs.Texts.{ends_in_backslash}

-- Lines of words.

-- LF, with a blank before it where the last word ends in `\`
abbrev pub line_end : List ℕ → List ℕ
line_end last = if ends_in_backslash last then codes " \n" else codes "\n"

-- the words of a line with one blank between, and its end
abbrev pub line_text : List (List ℕ) → List ℕ
line_text [] = codes "\n"
line_text (word ∷ []) = word ++ line_end word
line_text (word ∷ next ∷ rest) = word ++ 32 ∷ line_text (next ∷ rest)

abbrev pub text_of : List (List (List ℕ)) → List ℕ
text_of lines = flat_map line_text lines

-- The lines of a netlist, as words.

-- a clock that isn't an input has a line of its own
abbrev pub clock_lines : Parts → Option Clock → List (List (List ℕ))
clock_lines net None = []
clock_lines net (Some clock) =
    if list_any (bytes_eq clock.name) net.inputs then [] else (codes ".clock" ∷ clock.name ∷ []) ∷ []

-- the lines of the model's name, its inputs, its outputs and its clock
abbrev pub head_lines : Parts → List (List (List ℕ))
head_lines net =
    (codes ".model" ∷ net.name ∷ [])
    ∷ (codes ".inputs" ∷ net.inputs)
    ∷ (codes ".outputs" ∷ map (signal_name net) net.outputs)
    ∷ clock_lines net net.clock

abbrev pub edge_word : Edge → List ℕ
edge_word Rise = codes "re"
edge_word Fall = codes "fe"

abbrev pub init_word : Init → List ℕ
init_word StartsAtZero = codes "0"
init_word StartsAtOne = codes "1"
init_word Either = codes "3"

-- a clocked latch names the edge and the clock
abbrev pub control_words : Option Clock → Bool → List (List ℕ)
control_words (Some clock) true = edge_word clock.edge ∷ clock.name ∷ []
control_words clock clocked = []

abbrev pub latch_line : Parts → Latch → List (List ℕ)
latch_line net latch =
    codes ".latch" ∷ signal_name net latch.from ∷ latch.name
    ∷ (control_words net.clock latch.clocked ++ init_word latch.init ∷ [])

abbrev pub lit_byte : Lit → ℕ
lit_byte Zero = 48
lit_byte One = 49
lit_byte Any = 45

abbrev pub plane_word : Bool → List ℕ
plane_word true = codes "1"
plane_word false = codes "0"

-- the literals are one word, which isn't there without pins
abbrev pub lits_words : List Lit → List (List ℕ)
lits_words [] = []
lits_words (lit ∷ lits) = map lit_byte (lit ∷ lits) ∷ []

abbrev pub row_line : Bool → Row → List (List ℕ)
row_line plane row = lits_words row.lits ++ plane_word plane ∷ []

-- the line of the gate's names, and its rows
abbrev pub gate_lines : Parts → Gate → List (List (List ℕ))
gate_lines net gate =
    (codes ".names" ∷ (map (signal_name net) gate.pins ++ gate.name ∷ []))
    ∷ map (row_line gate.cover.plane) gate.cover.rows

abbrev pub latch_lines : Parts → List (List (List ℕ))
latch_lines net = map (latch_line net) net.latches

abbrev pub all_gate_lines : Parts → List (List (List ℕ))
all_gate_lines net = flat_map (gate_lines net) net.gates

abbrev pub lines_of : Parts → List (List (List ℕ))
lines_of net = head_lines net ++ (latch_lines net ++ (all_gate_lines net ++ (codes ".end" ∷ []) ∷ []))

-- the text of a netlist
abbrev pub written : Parts → List ℕ
written net = text_of (lines_of net)

-- the texts of some netlists, one after another
abbrev pub models_written : List Parts → List ℕ
models_written nets = flat_map written nets
