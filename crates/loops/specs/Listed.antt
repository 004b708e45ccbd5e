-- The loops of a netlist as lists of gates, each loop by its first gate in flat order.
use Rattle.std.specs.Prelude.{◌==◌, ℕ, Bool, false, List, [], ◌∷◌, length, filter}
use Rattle.std.specs.List.{range_with_len}
use Rattle.netlist.specs.declared.parts.Parts.{Parts}
use Rattle.loops.specs.Found.{loops_of}

-- the numbers of the gates, in flat order
abbrev pub gate_numbers : Parts → List ℕ
gate_numbers net = range_with_len 0 (length net.gates)

-- the gates of gate n's loop; none where the gate is in no loop
abbrev pub loop_of : Parts → ℕ → List ℕ
loop_of net n = filter ((loops_of net).same n) (gate_numbers net)

-- the cut wires of gate n's loop
abbrev pub cut_wires_of : Parts → ℕ → List ℕ
cut_wires_of net n = filter (loops_of net).cut (loop_of net n)

abbrev pub begins_with : List ℕ → ℕ → Bool
begins_with [] n = false
begins_with (gate ∷ gates) n = gate == n

-- the first gate of each loop
abbrev pub first_gates : Parts → List ℕ
first_gates net = filter (λ n. begins_with (loop_of net n) n) (gate_numbers net)
