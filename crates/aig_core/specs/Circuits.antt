-- What an AIGER text says: a circuit by its literals, and the names of its inputs, latches and outputs. A literal is
-- twice the number of a variable, and one more for the complement.
use Rattle.std.specs.Prelude.{ℕ, ◌+◌, List, [], ◌++◌, length, map, slice_index_or}
use Rattle.std.specs.List.{enumerate_from, range_with_len}
use Rattle.cyc_base.specs.declared.sig.Sig.{Sig}
use Rattle.netlist.specs.declared.parts.Init.{Init}
use Rattle.netlist.specs.declared.parts.Latch.{Latch}
use Rattle.netlist.specs.declared.parts.Parts.{Parts}
use Rattle.netlist.specs.Netlists.{signal_names, signal_name}
use Rattle.aig_core.specs.declared.edge.Edge.{Edge}
use Rattle.aig_core.specs.declared.edge.And.{And}
use Rattle.aig_core.specs.declared.building.Built.{Built}
use Rattle.aig_core.specs.Graphs.{Graph, first_and, edge, edge_to}

-- a latch: its literal, the one that it loads, and what it starts with
pub record CircuitLatch : Type 0 where
  pub own : Edge
  pub next : Edge
  pub start : Init

-- an AND: its literal, and the two that it reads
pub record CircuitAnd : Type 0 where
  pub own : Edge
  pub and : And

-- the name of an input, a latch or an output, by its letter and its place
pub record Symbol : Type 0 where
  pub letter : ℕ
  pub place : ℕ
  pub name : List ℕ

pub record Circuit : Type 0 where
  -- the greatest variable
  pub most : ℕ
  pub inputs : List Edge
  pub latches : List CircuitLatch
  pub outputs : List Edge
  pub ands : List CircuitAnd
  pub symbols : List Symbol

-- `i`, `l` and `o`
abbrev pub input_letter : ℕ
input_letter = 105

abbrev pub latch_letter : ℕ
latch_letter = 108

abbrev pub output_letter : ℕ
output_letter = 111

-- The circuit of a netlist's graph: the inputs, the latches and the ANDs are its variables, in this order, from 1 on.

abbrev pub input_edge : ℕ → Edge
input_edge i = edge_to (1 + i)

abbrev pub latch_edge : Graph → ℕ → Edge
latch_edge g j = edge_to (1 + g.inputs + j)

abbrev pub and_edge : Graph → ℕ → Edge
and_edge g i = edge_to (first_and g + i)

abbrev pub next_edge : Built → ℕ → Edge
next_edge built j = slice_index_or built.nexts j (edge 0)

abbrev pub circuit_latch : Built → ℕ → Latch → CircuitLatch
circuit_latch built j latch = record { own = latch_edge built.aig j; next = next_edge built j; start = latch.init }

abbrev pub circuit_and : Graph → ℕ → And → CircuitAnd
circuit_and g i and = record { own = and_edge g i; and = and }

abbrev pub symbol : ℕ → ℕ → List ℕ → Symbol
symbol letter place name = record { letter = letter; place = place; name = name }

-- these names, by their places
abbrev pub symbols_of : ℕ → List (List ℕ) → List Symbol
symbols_of letter names = map (λ item. symbol letter item.0 item.1) (enumerate_from 0 names)

abbrev pub circuit : Parts → Built → Circuit
circuit net built = record {
  most = built.aig.inputs + built.aig.latches + length built.aig.ands;
  inputs = map input_edge (range_with_len 0 built.aig.inputs);
  latches = map (λ item. circuit_latch built item.0 item.1) (enumerate_from 0 net.latches);
  outputs = built.outputs;
  ands = map (λ item. circuit_and built.aig item.0 item.1) (enumerate_from 0 built.aig.ands);
  symbols =
      symbols_of input_letter net.inputs
      ++ (symbols_of latch_letter (map (λ latch. latch.name) net.latches)
      ++ symbols_of output_letter (map (signal_name net) net.outputs));
}
