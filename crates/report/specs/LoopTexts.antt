-- The text of a netlist's loops and their cut wires.
use Rattle.std.specs.Prelude.{ℕ, ◌+◌, List, [], ◌∷◌, ◌++◌, length, codes, decimal}
use Rattle.std.specs.List.{flat_map}
use Rattle.netlist.specs.declared.parts.Parts.{Parts}
use Rattle.netlist.specs.Netlists.{gate_at}
use Rattle.loops.specs.Listed.{loop_of, cut_wires_of, first_gates}

abbrev pub gate_name : Parts → ℕ → List ℕ
gate_name net gate = codes " " ++ (gate_at net gate).name

-- ` NAME` for each of these gates
abbrev pub names_text : Parts → List ℕ → List ℕ
names_text net gates = flat_map (gate_name net) gates

-- a loop's number, these words, and these gates
abbrev pub loop_line : Parts → ℕ → List ℕ → List ℕ → List ℕ
loop_line net number words gates = (codes "loop " ++ decimal number) ++ (words ++ (names_text net gates ++ codes "\n"))

-- the lines of the loop that begins at this gate
abbrev pub loop_lines : Parts → ℕ → ℕ → List ℕ
loop_lines net number first =
    loop_line net number (codes " gates") (loop_of net first) ++ loop_line net number (codes " cut") (cut_wires_of net first)

-- the texts of loops by their first gates, which are numbered from here on
abbrev pub numbered_loops : (ℕ → ℕ → List ℕ) → ℕ → List ℕ → List ℕ
numbered_loops text number [] = []
numbered_loops text number (first ∷ rest) = text number first ++ numbered_loops text (number + 1) rest

-- the texts of all loops, in the order of their first gates
abbrev pub each_loop : (ℕ → ℕ → List ℕ) → Parts → List ℕ
each_loop text net = numbered_loops text 1 (first_gates net)

-- how many loops there are, and each one
abbrev pub loops_text : Parts → List ℕ
loops_text net = (codes "loops=" ++ decimal (length (first_gates net))) ++ (codes "\n" ++ each_loop (loop_lines net) net)
