-- The and-inverter graph of a netlist: the gates that its outputs and its latches need, one after another.
use Rattle.std.specs.Prelude.{ℕ, ◌+◌, ◌-◌, nat_lt, List, ◌++◌, length, map, fold, replicate, slice_index_or, slice_set, if◌then◌else◌}
use Rattle.cyc_base.specs.declared.sig.Sig.{Sig}
use Rattle.netlist.specs.declared.parts.Parts.{Parts}
use Rattle.netlist.specs.Netlists.{gate_at, columns}
use Rattle.netlist.specs.Orders.{numbers_from, gate_graph}
use Rattle.aig_core.specs.declared.edge.Edge.{Edge}
use Rattle.aig_core.specs.declared.building.Built.{Built}
use Rattle.aig_core.specs.Graphs.{Graph, empty, edge, edge_to}
use Rattle.aig_core.specs.Conjunctions.{Made}
use Rattle.aig_core.specs.Covers.{cover_made}
use Rattle.aig_core.specs.Depth.{postorder}

-- the outputs, and then the latches' sources
abbrev pub needed_signals : Parts → List Sig
needed_signals net = net.outputs ++ map (λ latch. latch.from) net.latches

-- the gates in the order in which they are built: each after the gates on its pins, in the order of the pins
abbrev pub build_order : Parts → List ℕ
build_order net = postorder (gate_graph net) (numbers_from (columns net) (needed_signals net))

-- the graph so far, and each built gate's edge
pub record Building : Type 0 where
  pub graph : Graph
  pub edges : List Edge

-- the edge of a signal: inputs and latches are the first variables
abbrev pub signal_edge : Parts → List Edge → Sig → Edge
signal_edge net edges s =
    if nat_lt s.0 (columns net) then edge_to (1 + s.0) else slice_index_or edges (s.0 - columns net) (edge 0)

abbrev pub gate_made : Parts → Building → ℕ → Made
gate_made net b n = cover_made b.graph (map (signal_edge net b.edges) (gate_at net n).pins) (gate_at net n).cover

abbrev pub with_gate : Parts → Building → ℕ → Building
with_gate net b n = let made = gate_made net b n in record { graph = made.graph; edges = slice_set b.edges n made.edge }

abbrev pub nothing_built : Parts → Building
nothing_built net = record {
  graph = empty (length net.inputs) (length net.latches);
  edges = replicate (length net.gates) (edge 0);
}

unfoldable pub building : Parts → List ℕ → Building
building net gates = fold (with_gate net) (nothing_built net) gates

-- the graph, and the edges of outputs and of latches' sources
abbrev pub built_from : Parts → Building → Built
built_from net b = record {
  aig = b.graph;
  outputs = map (signal_edge net b.edges) net.outputs;
  nexts = map (λ latch. signal_edge net b.edges latch.from) net.latches;
}

abbrev pub built : Parts → Built
built net = built_from net (building net (build_order net))
