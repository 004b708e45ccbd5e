-- From the lines of a flat netlist to its signals: what is wrong with them, and the netlist that they make.
use Rattle.std.specs.Prelude.{◌&&◌, ◌||◌, ℕ, Bool, true, false, not, if◌then◌else◌, List, [], ◌∷◌, ◌++◌, map, filter, fold, Some, None, Ok, Err, option_map, is_some, codes}
use Rattle.std.specs.declared.option.Option.{Option}
use Rattle.std.specs.declared.result.Result.{Result}
use Rattle.std.specs.List.{find, flat_map, position_or_len}
use Rattle.std.specs.Option.{option_or, option_map_or, option_and_then}
use Rattle.std.specs.Str.{bytes_eq}
use Rattle.cyc_base.specs.declared.sig.Sig.{Sig}
use Rattle.netlist.specs.declared.parts.Clock.{Clock}
use Rattle.netlist.specs.declared.parts.Gate.{Gate}
use Rattle.netlist.specs.declared.parts.Latch.{Latch}
use Rattle.netlist.specs.declared.parts.Edge.{Edge}
use Rattle.netlist.specs.declared.parts.Edge.TheVariants.{Rise, Fall}
use Rattle.netlist.specs.declared.parts.Parts.{Parts}
use Rattle.blif_read.specs.declared.models.BlifModel.{BlifModel}
use Rattle.blif_read.specs.declared.models.GateLine.{GateLine}
use Rattle.blif_read.specs.declared.models.LatchLine.{LatchLine}
use Rattle.flatten.specs.declared.fault.FlatFault.{FlatFault}
use Rattle.flatten.specs.declared.fault.FlatFault.TheVariants.{DeclaredTwice, DrivenTwice, Undriven, BadClock, ClockRead}
use Rattle.flatten.specs.Instances.{is_among}
use Rattle.flatten.specs.Walk.{FlatLines}

-- the first name that stands among the earlier ones
abbrev pub twice_after : List (List ℕ) → List (List ℕ) → Option (List ℕ)
twice_after earlier [] = None
twice_after earlier (name ∷ names) =
    if is_among earlier name then Some name else twice_after (earlier ++ name ∷ []) names

abbrev pub first_twice : List (List ℕ) → Option (List ℕ)
first_twice names = twice_after [] names

-- the names, each once, in the order in which they come first
abbrev pub each_once : List (List ℕ) → List (List ℕ)
each_once names = fold (λ done name. if is_among done name then done else done ++ name ∷ []) [] names

-- the `.clock` names of the top that aren't inputs, each once
abbrev pub own_clocks : BlifModel → List (List ℕ)
own_clocks top = each_once (filter (λ name. not (is_among top.inputs name)) top.clocks)

abbrev pub latch_outputs : FlatLines → List (List ℕ)
latch_outputs lines = map (λ l. l.output) lines.latches

abbrev pub gate_outputs : FlatLines → List (List ℕ)
gate_outputs lines = map (λ g. g.output) lines.gates

-- what drives a wire: the top's inputs, its own clocks, the latches and the gates
abbrev pub drivers : BlifModel → FlatLines → List (List ℕ)
drivers top lines = top.inputs ++ (own_clocks top ++ (latch_outputs lines ++ gate_outputs lines))

-- the wires that are read: by the outputs, by the latches, and by the gates' pins
abbrev pub reads : BlifModel → FlatLines → List (List ℕ)
reads top lines = top.outputs ++ (map (λ l. l.from) lines.latches ++ flat_map (λ g. g.pins) lines.gates)

-- the control of the first latch that has one
abbrev pub has_control : LatchLine → Bool
has_control l = is_some l.control

abbrev pub first_control : List LatchLine → Option Clock
first_control latches = option_and_then (λ l. l.control) (find has_control latches)

abbrev pub edge_eq : Edge → Edge → Bool
edge_eq Rise Rise = true
edge_eq Fall Fall = true
edge_eq a b = false

-- a name that a control may have: an input or a `.clock` name of the top, but not `NIL`
abbrev pub is_clock_of : BlifModel → List ℕ → Bool
is_clock_of top name =
    not (bytes_eq name (codes "NIL")) && (is_among top.inputs name || is_among top.clocks name)

-- the control is a clock of the top, and is the first control
abbrev pub is_fitting : BlifModel → Clock → Clock → Bool
is_fitting top first control =
    is_clock_of top control.name && edge_eq control.edge first.edge && bytes_eq control.name first.name

abbrev pub has_bad_control : BlifModel → Option Clock → LatchLine → Bool
has_bad_control top first l =
    option_map_or (λ control. option_map_or (λ f. not (is_fitting top f control)) first false) l.control false

-- the same by whether the first control is a clock of the top
abbrev pub is_other_control : Bool → Clock → Clock → Bool
is_other_control fits first control =
    not (fits && edge_eq control.edge first.edge && bytes_eq control.name first.name)

abbrev pub has_other_control : Bool → Clock → LatchLine → Bool
has_other_control fits first l = option_map_or (is_other_control fits first) l.control false

abbrev pub declared_twice : BlifModel → Option FlatFault
declared_twice top = option_map DeclaredTwice (option_or (first_twice top.inputs) (first_twice top.outputs))

abbrev pub driven_twice : BlifModel → FlatLines → Option FlatFault
driven_twice top lines = option_map DrivenTwice (first_twice (drivers top lines))

abbrev pub undriven : BlifModel → FlatLines → Option FlatFault
undriven top lines = option_map Undriven (find (λ name. not (is_among (drivers top lines) name)) (reads top lines))

abbrev pub bad_clock : BlifModel → FlatLines → Option FlatFault
bad_clock top lines =
    option_map (λ l. BadClock l.output) (find (has_bad_control top (first_control lines.latches)) lines.latches)

abbrev pub clock_read : BlifModel → FlatLines → Option FlatFault
clock_read top lines = option_map ClockRead (find (is_among (own_clocks top)) (reads top lines))

-- what is wrong with the drivers, with the wires that are read, and with the controls, in this order
abbrev pub link_fault : BlifModel → FlatLines → Option FlatFault
link_fault top lines =
    option_or (option_or (declared_twice top) (driven_twice top lines))
    (option_or (option_or (undriven top lines) (bad_clock top lines))
    (clock_read top lines))

-- the names of the signals in the order of their numbers, and the number of a name
abbrev pub signal_list : BlifModel → FlatLines → List (List ℕ)
signal_list top lines = top.inputs ++ (latch_outputs lines ++ gate_outputs lines)

abbrev pub sig_of : List (List ℕ) → List ℕ → Sig
sig_of names name = record { 0 = position_or_len (bytes_eq name) names }

-- a latch and a gate that read these signals
abbrev pub latch_with : (List ℕ → Sig) → LatchLine → Latch
latch_with sig l = record { name = l.output; from = sig l.from; init = l.init; clocked = is_some l.control }

abbrev pub gate_with : (List ℕ → Sig) → GateLine → Gate
gate_with sig g = record { name = g.output; pins = map sig g.pins; cover = g.cover }

-- the netlist of lines without a fault
abbrev pub netlist_by : (List ℕ → Sig) → BlifModel → FlatLines → Parts
netlist_by sig top lines = record {
  name = top.name;
  inputs = top.inputs;
  clock = first_control lines.latches;
  latches = map (latch_with sig) lines.latches;
  gates = map (gate_with sig) lines.gates;
  outputs = map sig top.outputs;
}

abbrev pub linked : BlifModel → FlatLines → Result Parts FlatFault
linked top lines =
    elim (link_fault top lines) [ Some fault ↦ Err fault | None ↦ Ok (netlist_by (sig_of (signal_list top lines)) top lines) ]
