-- The text of why a gate is undetermined.
use Rattle.std.specs.Prelude.{◌≤◌, ◌<◌, ℕ, true, false, List, [], ◌∷◌, ◌++◌, length, slice_index_or, codes, All}
use Rattle.std.specs.List.{flat_map, range_with_len}
use Rattle.cyc_base.specs.declared.trit.Trit.{Trit}
use Rattle.cyc_base.specs.declared.trit.Trit.TheVariants.{Zero, One, X}
use Rattle.netlist.specs.declared.parts.Parts.{Parts}
use Rattle.netlist.specs.Netlists.{signal, count, signal_name}
use Rattle.explanations.specs.declared.explanation.Explanation.{Explanation}
use Rattle.explanations.specs.declared.pins.Pin.{Pin}
use Rattle.explanations.specs.declared.pins.Pin.TheVariants.{Known, Open, Free}
use Rattle.report.specs.LoopTexts.{names_text}
use Rattle.report.specs.Verdicts.{column_text}

-- gates behind a word
abbrev pub gates_line : List ℕ → Parts → List ℕ → List ℕ
gates_line word net gates = word ++ (names_text net gates ++ codes "\n")

-- ` NAME=B` of a value that is needed, and nothing of another
abbrev pub needed_text : List ℕ → Trit → List ℕ
needed_text name Zero = column_text (name, false)
needed_text name One = column_text (name, true)
needed_text name X = []

abbrev pub needed_column : Parts → List Trit → ℕ → List ℕ
needed_column net needs n = needed_text (signal_name net (signal n)) (slice_index_or needs n X)

abbrev pub needed_columns : Parts → List Trit → List ℕ
needed_columns net needs = flat_map (needed_column net needs) (range_with_len 0 (length needs))

-- values of columns behind a word
abbrev pub values_line : List ℕ → Parts → List Trit → List ℕ
values_line word net values = word ++ (needed_columns net values ++ codes "\n")

-- ` NAME=B` of a wire beside the cycle whose value is needed, ` NAME=x` of one that is to be unknown, and nothing of another
abbrev pub side_text : List ℕ → Pin → List ℕ
side_text name (Known b) = column_text (name, b)
side_text name Open = codes " " ++ (name ++ codes "=x")
side_text name Free = []

abbrev pub side_of : Parts → List Pin → ℕ → List ℕ
side_of net sides n = side_text (signal_name net (signal n)) (slice_index_or sides n Free)

abbrev pub all_sides : Parts → List Pin → List ℕ
all_sides net sides = flat_map (side_of net sides) (range_with_len 0 (length sides))

abbrev pub sides_line : Parts → List Pin → List ℕ
sides_line net sides = codes "sides" ++ (all_sides net sides ++ codes "\n")

-- the cycle, and what holds it open: the wires beside it, and the columns
abbrev pub cycle_lines : Parts → Explanation → List ℕ
cycle_lines net why = gates_line (codes "cycle") net why.cycle ++ (sides_line net why.sides ++ values_line (codes "needs") net why.needs)

-- the way from the cycle to the gate, where there is one, and the further columns that hold it open
abbrev pub way_lines : Parts → List ℕ → List Trit → List ℕ
way_lines net way also = gates_line (codes "reaches") net way ++ values_line (codes "also") net also

abbrev pub way_text : Parts → List ℕ → List Trit → List ℕ
way_text net [] also = []
way_text net (gate ∷ way) also = way_lines net (gate ∷ way) also

abbrev pub explanation_text : Parts → Explanation → List ℕ
explanation_text net why = cycle_lines net why ++ way_text net why.way why.also
