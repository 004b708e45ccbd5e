-- The parts of lines, as they are appended one after another.
use Rattle.std.specs.Prelude.{ℕ, Bool, List, [], ◌∷◌, ◌++◌, map, codes}
use Rattle.std.specs.List.{flat_map}
use Rattle.cyc_base.specs.declared.sig.Sig.{Sig}
use Rattle.netlist.specs.Netlists.{signal_name}
use Rattle.cover_logic.specs.declared.row.Lit.{Lit}
use Rattle.cover_logic.specs.declared.row.Row.{Row}
use Rattle.netlist.specs.declared.parts.Gate.{Gate}
use Rattle.netlist.specs.declared.parts.Parts.{Parts}
use Rattle.blif_write.specs.Written.{line_end, line_text, lit_byte, row_line, latch_line}

-- a word behind a blank
abbrev pub behind : List ℕ → List ℕ
behind word = 32 ∷ word

-- the names of signals, each behind a blank
abbrev pub names_behind : Parts → List Sig → List ℕ
names_behind net sigs = flat_map (λ sig. behind (signal_name net sig)) sigs

-- the last word of a line, and the line's end
abbrev pub last_behind : List ℕ → List ℕ
last_behind word = 32 ∷ (word ++ line_end word)

-- the last of these words, or the one before them
abbrev pub last_word : List ℕ → List (List ℕ) → List ℕ
last_word first [] = first
last_word first (word ∷ words) = last_word word words

-- a line without its first word
abbrev pub names_rest : List ℕ → List (List ℕ) → List ℕ
names_rest first words = flat_map behind words ++ line_end (last_word first words)

-- Lines, each made from its item.

abbrev pub lits_text : List Lit → List ℕ
lits_text lits = flat_map (λ lit. lit_byte lit ∷ []) lits

abbrev pub rows_text : Bool → List Row → List ℕ
rows_text plane rows = flat_map (λ row. line_text (row_line plane row)) rows

abbrev pub gate_text : Parts → Gate → List ℕ
gate_text net gate =
    line_text (codes ".names" ∷ (map (signal_name net) gate.pins ++ gate.name ∷ [])) ++ rows_text gate.cover.plane gate.cover.rows

abbrev pub gates_text : Parts → List ℕ
gates_text net = flat_map (gate_text net) net.gates

abbrev pub latches_text : Parts → List ℕ
latches_text net = flat_map (λ latch. line_text (latch_line net latch)) net.latches
