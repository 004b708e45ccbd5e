-- A graph with the rewritten netlist's values is a machine that does what the accepted netlist does.
use Rattle.std.proofs.Common.{◌≡◌, ◌≢◌, Bool, List, [], length, sym, ap, ◌∙◌, arith}
use Rattle.std.specs.Prelude.{slice_index_or}
use Rattle.std.proofs.lemmas.List.{length-map}
use Rattle.std.proofs.lemmas.List.Elements.{All-map}
use Rattle.cyc_base.specs.declared.sig.Sig.{Sig}
use Rattle.cyc_base.specs.declared.trit.Trit.{Trit}
use Rattle.cyc_base.specs.declared.trit.Trit.TheVariants.{X}
use Rattle.cyc_base.specs.Values.{bits, EachBelow}
use Rattle.cyc_base.proofs.OrderLemmas.{above_bits}
use Rattle.netlist.specs.declared.parts.Latch.{Latch}
use Rattle.netlist.specs.declared.parts.Parts.{Parts}
use Rattle.netlist.specs.Netlists.{signal_names, IsNetlist, columns}
use Rattle.netlist.specs.Fixpoint.{wire, fix, outs, next}
use Rattle.care_sets.specs.Care.{CareSet, IsCareVector}
use Rattle.refusals.specs.declared.observe.Observe.{Observe}
use Rattle.refusals.specs.Acceptance.{Accepts}
use Rattle.isolation.proofs.ExcerptLemmas.{known_list}
use Rattle.schedules.specs.Accepted.{TellsAsMuch}
use Rattle.schedules.specs.Settling.{HasSameInterface}
use Rattle.schedules.specs.Machines.{FitsFixpoint}
use Rattle.schedules.proofs.CareLemmas.{outputs_known}
use Rattle.schedules.proofs.MachineLemmas.{runs_are_machines}
use Rattle.aig_core.specs.declared.building.Built.{Built}
use Rattle.aig_core.specs.Answers.{FitsNetlist, HasValues}
use Rattle.aig_core.specs.Building.{built}
use Rattle.rewriting.specs.Graphs.{RunsAs, machine_of, IsGraphIn}
use Rattle.rewriting.specs.Laws.{GraphsShowTheSame}
use Rattle.rewriting.specs.Rewriting.{rewritten, IsLoopFreeForm}
use Rattle.rewriting.proofs.RewrittenLemmas.{same_interface, tells_as_much}

-- values that are known, and values above them that are told by Boolean ones
known_told : (values above : List Trit) (known told : List Bool) → EachBelow values above → bits known ≡ values → bits told ≡ above → values ≡ bits told
known_told values above known told below is_known is_told = grind (arith, above_bits known told)

-- how many columns the rewritten netlist has
pub same_columns : (net other : Parts) → HasSameInterface net other → columns other ≡ columns net
same_columns net other same =
    let inputs = ap length same.inputs in
    let names = ap length same.latches in
    let own = length-map net.latches (λ (latch : Latch). latch.name) in
    let others = length-map other.latches (λ (latch : Latch). latch.name) in
    omega (arith, inputs, names, own, others)

module _ (net other : Parts) (care : CareSet) (what : Observe) (graph : Built) (valid : IsNetlist net) (accepts : Accepts net care what)
    (interface : HasSameInterface net other) (tells : TellsAsMuch net other care) (values : HasValues other graph) where
  width : (v : List Bool) → IsCareVector net care v → length v ≡ columns other
  width v counts = counts.width ∙ sym (same_columns net other interface)

  outputs_told : (v : List Bool) → IsCareVector net care v → outs net (bits v) ≡ bits ((machine_of graph).shown v)
  outputs_told v counts =
      let determined = outputs_known net care what v valid accepts counts in
      let known = known_list (outs net (bits v)) (All-map (λ value. value ≢ X) (wire (fix net (bits v))) net.outputs determined) in
      grind (arith, known_told (outs net (bits v)) (outs other (bits v)) known.0 ((machine_of graph).shown v) (tells.outputs v counts) known.1 (values.outputs v (width v counts)), width v counts)

  loads_told : (v : List Bool) → IsCareVector net care v → next net (bits v) ≡ bits ((machine_of graph).loads v)
  loads_told v counts =
      let after = accepts.closed v counts in
      grind (arith, known_told (next net (bits v)) (next other (bits v)) after.state ((machine_of graph).loads v) (tells.loads v counts), width v counts)

  fits_fixpoint : FitsFixpoint net care (machine_of graph)
  fits_fixpoint = record { outputs = outputs_told; loads = loads_told }

  runs_as : RunsAs net care (machine_of graph)
  runs_as run is within = runs_are_machines net care what (machine_of graph) run valid accepts fits_fixpoint is within

pub graphs_show_the_same : GraphsShowTheSame
graphs_show_the_same net care what graph valid accepts values =
    runs_as net (rewritten net care) care what graph valid accepts (same_interface net care) (tells_as_much net care) values

-- a graph that fits a netlist fits each one of the same interface
fits_too : (net other : Parts) (graph : Built) → HasSameInterface net other → FitsNetlist other graph → FitsNetlist net graph
fits_too net other graph same fits =
    let inputs = ap length same.inputs in
    let names = ap length same.latches in
    let own = length-map net.latches (λ (latch : Latch). latch.name) in
    let others = length-map other.latches (λ (latch : Latch). latch.name) in
    let outputs = ap length same.outputs in
    let own_outputs = length-map net.outputs (λ (s : Sig). slice_index_or (signal_names net) s.0 []) in
    let other_outputs = length-map other.outputs (λ (s : Sig). slice_index_or (signal_names other) s.0 []) in
    grind arith

-- what a user has of the graph of a netlist that stands in the place of an accepted one
pub is_graph_in : (net : Parts) (care : CareSet) (what : Observe) (other : Parts) (graph : Built) → IsNetlist net → Accepts net care what
    → IsLoopFreeForm net care other → graph ≡ built other → FitsNetlist other graph → HasValues other graph → IsGraphIn net care other graph
is_graph_in net care what other graph valid accepts form is fits values = record {
  is = is;
  fits = fits_too net other graph form.same.interface fits;
  interface = form.same.interface;
  runs = runs_as net other care what graph valid accepts form.same.interface form.tells values;
}
