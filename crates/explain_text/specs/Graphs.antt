-- The loops of an accepted netlist as a graph: a cluster for each. It has the loop's gates, and the lines that are told of
-- it as its label; or if the gates are many, the cut wires and the number of the gates between, and the line of its sweeps.
use Rattle.std.specs.Prelude.{ℕ, List, length, nat_lt, if◌then◌else◌}
use Rattle.netlist.specs.declared.parts.Parts.{Parts}
use Rattle.loops.specs.Found.{loops_of}
use Rattle.loops.specs.Listed.{loop_of}
use Rattle.dot_text.specs.Dot.{labelled_graph}
use Rattle.dot_text.specs.LoopGraphs.{labelled_cluster, cut_cluster}
use Rattle.report.specs.LoopTexts.{each_loop}
use Rattle.explain_text.specs.Lines.{told_lines, sweeps_line}

-- The loop that begins at this gate, where a loop of gate n needs `sweeps n` sweeps.

abbrev pub whole_cluster : Parts → (ℕ → ℕ) → ℕ → ℕ → List ℕ
whole_cluster net sweeps number first = labelled_cluster net (loops_of net) number (told_lines net sweeps number first) (loop_of net first)

abbrev pub short_cluster : Parts → (ℕ → ℕ) → ℕ → ℕ → List ℕ
short_cluster net sweeps number first = cut_cluster net (loops_of net) number (sweeps_line number (sweeps first)) (loop_of net first)

-- the most gates of a loop that are drawn
abbrev pub most_drawn : ℕ
most_drawn = 32

abbrev pub told_cluster : Parts → (ℕ → ℕ) → ℕ → ℕ → List ℕ
told_cluster net sweeps number first =
    if nat_lt most_drawn (length (loop_of net first)) then short_cluster net sweeps number first else whole_cluster net sweeps number first

abbrev pub told_clusters : Parts → (ℕ → ℕ) → List ℕ
told_clusters net sweeps = each_loop (told_cluster net sweeps) net

-- all loops, in a graph with this text as its label
abbrev pub told_graph : Parts → List ℕ → (ℕ → ℕ) → List ℕ
told_graph net label sweeps = labelled_graph label (told_clusters net sweeps)
