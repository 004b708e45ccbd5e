-- The loops of a netlist as a graph: a cluster for each, with its gates and the wires between them, cut wires dashed.
use Rattle.std.specs.Prelude.{ℕ, Bool, not, List, [], ◌++◌, length, filter, codes, decimal, if◌then◌else◌}
use Rattle.std.specs.List.{flat_map}
use Rattle.cyc_base.specs.declared.sig.Sig.{Sig}
use Rattle.netlist.specs.declared.parts.Parts.{Parts}
use Rattle.netlist.specs.Netlists.{gate_at, gate_sig}
use Rattle.loops.specs.Cuts.{Loops}
use Rattle.loops.specs.Found.{loops_of}
use Rattle.loops.specs.Listed.{loop_of}
use Rattle.loops.specs.Sweeps.{gate_of, in_loop_of}
use Rattle.report.specs.LoopTexts.{each_loop}
use Rattle.dot_text.specs.Dot.{node, quoted, wire}

abbrev pub gate_node : Parts → ℕ → List ℕ
gate_node net n = node (gate_sig net n).0 (codes " [label=\"") (gate_at net n).name (codes "\"];\n")

abbrev pub wire_style : Bool → List ℕ
wire_style cut = if cut then codes " [style=dashed];\n" else codes ";\n"

-- the wire that a pin of gate n reads, where it is one of its loop
abbrev pub loop_wire : Parts → Loops → ℕ → Sig → List ℕ
loop_wire net loops n pin =
    if in_loop_of net loops n pin then wire pin.0 (gate_sig net n).0 (wire_style (loops.cut (gate_of net pin))) else []

abbrev pub loop_wires : Parts → Loops → ℕ → List ℕ
loop_wires net loops n = flat_map (loop_wire net loops n) (gate_at net n).pins

-- these gates and the wires between them
abbrev pub cluster_body : Parts → Loops → List ℕ → List ℕ
cluster_body net loops gates = flat_map (gate_node net) gates ++ (flat_map (loop_wires net loops) gates ++ codes "}\n")

abbrev pub cluster : Parts → Loops → ℕ → List ℕ → List ℕ
cluster net loops number gates =
    (codes "subgraph cluster_" ++ decimal number) ++ ((codes " {\n  label=\"loop " ++ decimal number) ++ (codes "\";\n" ++ cluster_body net loops gates))

-- what stands before the body of the same with this text as its label
abbrev pub cluster_opens : ℕ → List ℕ → List ℕ
cluster_opens number label = (codes "subgraph cluster_" ++ decimal number) ++ (codes " {\n  label=\"" ++ (quoted label ++ codes "\";\n"))

abbrev pub labelled_cluster : Parts → Loops → ℕ → List ℕ → List ℕ → List ℕ
labelled_cluster net loops number label gates = cluster_opens number label ++ cluster_body net loops gates

-- ---- a loop of many gates: its cut wires, and between them a node with the number of its other gates

abbrev pub cut_node : Parts → Loops → ℕ → List ℕ
cut_node net loops n = if loops.cut n then gate_node net n else []

-- how many of these gates are no cut wires
abbrev pub between : Loops → List ℕ → ℕ
between loops gates = length (filter (λ n. not (loops.cut n)) gates)

abbrev pub between_node : ℕ → ℕ → List ℕ
between_node number gates = (codes "  b" ++ decimal number) ++ (codes " [shape=none, label=\"" ++ (decimal gates ++ codes " gates\"];\n"))

-- the wires from a cut wire to the gates between, and back
abbrev pub cut_wires : ℕ → ℕ → List ℕ
cut_wires number signal =
    (codes "  s" ++ decimal signal)
    ++ ((codes " -> b" ++ decimal number) ++ ((codes " [style=dashed];\n  b" ++ decimal number) ++ ((codes " -> s" ++ decimal signal) ++ codes ";\n")))

abbrev pub wires_at : Parts → Loops → ℕ → ℕ → List ℕ
wires_at net loops number n = if loops.cut n then cut_wires number (gate_sig net n).0 else []

abbrev pub cut_body : Parts → Loops → ℕ → List ℕ → List ℕ
cut_body net loops number gates =
    flat_map (cut_node net loops) gates
    ++ (between_node number (between loops gates) ++ (flat_map (wires_at net loops number) gates ++ codes "}\n"))

abbrev pub cut_cluster : Parts → Loops → ℕ → List ℕ → List ℕ → List ℕ
cut_cluster net loops number label gates = cluster_opens number label ++ cut_body net loops number gates

-- ---- all loops

-- the loop that begins at this gate
abbrev pub loop_graph : Parts → Loops → ℕ → ℕ → List ℕ
loop_graph net loops number first = cluster net loops number (loop_of net first)

abbrev pub clusters : Parts → Loops → List ℕ
clusters net loops = each_loop (loop_graph net loops) net

abbrev pub loops_graph : Parts → List ℕ
loops_graph net = codes "digraph {\n" ++ (clusters net (loops_of net) ++ codes "}\n")
