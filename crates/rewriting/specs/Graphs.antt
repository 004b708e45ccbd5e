-- The and-inverter graph of the netlist that an accepted one is rewritten into, and what a user has of it.
use Rattle.std.specs.Prelude.{◌≡◌, ℕ, map}
use Rattle.netlist.specs.declared.parts.Parts.{Parts}
use Rattle.care_sets.specs.Care.{CareSet}
use Rattle.schedules.specs.Runs.{Run, IsRun, inputs_of, latches_of, outputs_of}
use Rattle.schedules.specs.Settling.{HasSameInterface, IsWithinCare}
use Rattle.schedules.specs.Machines.{Machine, states_over, shown_over}
use Rattle.aig_core.specs.declared.building.Built.{Built}
use Rattle.aig_core.specs.Graphs.{den}
use Rattle.aig_core.specs.Answers.{FitsNetlist}
use Rattle.aig_core.specs.Building.{built}
use Rattle.rewriting.specs.Rewriting.{rewritten}

abbrev pub graph_of : Parts → CareSet → Built
graph_of net care = built (rewritten net care)

-- the most ANDs of a graph
abbrev pub most_ands : ℕ
most_ands = 4000000

-- the most columns of a netlist whose graph is made
abbrev pub most_columns : ℕ
most_columns = 1000000000

-- The machine of a graph: at the inputs followed by the latches it shows the values of the outputs' edges, and loads those
-- of the latches' edges.
abbrev pub machine_of : Built → Machine
machine_of graph = record {
  shown = λ v. map (λ e. den graph.aig e v) graph.outputs;
  loads = λ v. map (λ e. den graph.aig e v) graph.nexts;
}

-- Each run of the netlist within care has at each tick the outputs and the latches of the machine, from the same latches
-- over the same inputs, whatever its window, its past and its fair schedules are.
abbrev pub RunsAs : Parts → CareSet → Machine → Type 0
RunsAs net care machine = (run : Run) → IsRun net run → IsWithinCare net care run →
    (outputs_of net run ≡ shown_over machine run.latches (inputs_of run))
    × (latches_of net run ≡ states_over machine run.latches (inputs_of run))

-- what a user has of the graph of a netlist that stands in the place of this one
pub record IsGraphIn (net : Parts) (care : CareSet) (other : Parts) (graph : Built) : Type 0 where
  pub is : graph ≡ built other
  -- it has the netlist's inputs and latches, and an edge for each output and for each latch
  pub fits : FitsNetlist net graph
  -- the names and inits that its text tells are the netlist's
  pub interface : HasSameInterface net other
  -- and its machine is what the netlist does
  pub runs : RunsAs net care (machine_of graph)

-- what a user has of the graph of the rewritten netlist
abbrev pub IsGraphing : Parts → CareSet → Built → Type 0
IsGraphing net care graph = IsGraphIn net care (rewritten net care) graph
