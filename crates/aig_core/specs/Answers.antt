-- What calls answer, and what the answer means.
use Rattle.std.specs.Prelude.{◌≡◌, ◌<◌, Bool, List, length, map, All, Result, Ok, Err}
use Rattle.netlist.specs.Netlists.{columns}
use Rattle.aig_core.specs.declared.aig.TheConstants.{MAX_ANDS}
use Rattle.cyc_base.specs.Values.{bits}
use Rattle.netlist.specs.declared.parts.Parts.{Parts}
use Rattle.netlist.specs.Fixpoint.{outs, next}
use Rattle.netlist.specs.Walks.{IsLoopFree}
use Rattle.aig_core.specs.declared.edge.Edge.{Edge}
use Rattle.aig_core.specs.declared.building.Built.{Built}
use Rattle.aig_core.specs.declared.fault.AigFault.{AigFault}
use Rattle.aig_core.specs.declared.fault.AigFault.TheVariants.{TooLarge, Memory}
use Rattle.aig_core.specs.Graphs.{Graph, IsEdge, den}
use Rattle.aig_core.specs.Conjunctions.{Made}
use Rattle.aig_core.specs.Building.{Building, built}

-- `TooLarge` comes only where there are over 4,000,000 ANDs
abbrev pub IsFault : Graph → AigFault → Type 0
IsFault g TooLarge = MAX_ANDS < length g.ands
IsFault g Memory = Unit {0}

-- the edge and the graph are those that the definition makes, or it makes too many ANDs, or memory ran out
abbrev pub Makes : Result Edge AigFault → Graph → Made → Type 0
Makes (Ok e) new made = (e ≡ made.edge) × (new ≡ made.graph)
Makes (Err fault) new made = IsFault made.graph fault

-- at each Boolean vector the edges have the values of the outputs and of the latches' sources
pub record HasValues (net : Parts) (built : Built) : Type 0 where
  pub outputs : (v : List Bool) → length v ≡ columns net → bits (map (λ e. den built.aig e v) built.outputs) ≡ outs net (bits v)
  pub nexts : (v : List Bool) → length v ≡ columns net → bits (map (λ e. den built.aig e v) built.nexts) ≡ next net (bits v)

-- the edges are the graph's, and there is one for each output and one for each latch
pub record FitsNetlist (net : Parts) (built : Built) : Type 0 where
  pub inputs : built.aig.inputs ≡ length net.inputs
  pub latches : built.aig.latches ≡ length net.latches
  pub output_count : length built.outputs ≡ length net.outputs
  pub next_count : length built.nexts ≡ length net.latches
  pub outputs : All (IsEdge built.aig) built.outputs
  pub nexts : All (IsEdge built.aig) built.nexts

-- a table of gates' edges, which are a graph's, of the netlist's inputs and latches
pub record HasEdges (net : Parts) (g : Graph) (edges : List Edge) : Type 0 where
  pub inputs : g.inputs ≡ length net.inputs
  pub latches : g.latches ≡ length net.latches
  pub width : length edges ≡ length net.gates
  pub all : All (IsEdge g) edges

-- the graph and the table are those of this state, or it has too many ANDs, or memory ran out
abbrev pub Builds : {T : Type 0} → Result T AigFault → Graph → List Edge → Building → Type 0
Builds (Ok x) g edges b = (g ≡ b.graph) × (edges ≡ b.edges)
Builds (Err fault) g edges b = IsFault b.graph fault

-- `TooLarge` comes only for a netlist without loops whose graph has over 4,000,000 ANDs
abbrev pub IsRefusal : Parts → AigFault → Type 0
IsRefusal net TooLarge = IsLoopFree net × (MAX_ANDS < length (built net).aig.ands)
IsRefusal net Memory = Unit {0}
