-- Why a wire is undetermined, as a graph: the loop in which its cycle lies and the way from it, with the wires between these
-- gates, and at each gate of the cycle and of the way a box with the values on its pins that hold it open. What is unknown is
-- red, and wires between gates of the cycle are bold.
use Rattle.std.specs.Prelude.{ℕ, ◌<◌, ◌≤◌, ◌==◌, ◌&&◌, ◌||◌, Bool, true, false, nat_le, List, [], ◌++◌, length, All, filter, slice_index, slice_index_or, codes, if◌then◌else◌}
use Rattle.std.specs.List.{flat_map, list_any}
use Rattle.cyc_base.specs.declared.sig.Sig.{Sig}
use Rattle.cyc_base.specs.declared.trit.Trit.{Trit}
use Rattle.cyc_base.specs.declared.trit.Trit.TheVariants.{X}
use Rattle.netlist.specs.declared.parts.Parts.{Parts}
use Rattle.netlist.specs.Fixpoint.{wire as value_of}
use Rattle.netlist.specs.Netlists.{count, gate_at, gate_sig, signal_name}
use Rattle.loops.specs.Cuts.{Loops}
use Rattle.loops.specs.Found.{loops_of}
use Rattle.loops.specs.Listed.{gate_numbers}
use Rattle.loops.specs.Sweeps.{first_gate, gate_of}
use Rattle.explanations.specs.declared.explanation.Explanation.{Explanation}
use Rattle.explanations.specs.declared.pins.Pin.{Pin}
use Rattle.explanations.specs.declared.pins.Pin.TheVariants.{Known, Open, Free}
use Rattle.explanations.specs.Explained.{or_else}
use Rattle.explanations.specs.Held.{seen}
use Rattle.dot_text.specs.Dot.{box, labelled_graph, node, wire}
use Rattle.dot_text.specs.RefusalGraphs.{wire_label}
use Rattle.dot_text.specs.LoopGraphs.{wire_style}

-- what is drawn of a netlist
pub record Picture : Type 0 where
  pub net : Parts
  pub loops : Loops
  -- the values of the signals, of which some are unknown
  pub values : List Trit
  -- whether a gate is drawn, and whether it is on the cycle, and on the way
  pub drawn : ℕ → Bool
  pub cycle : ℕ → Bool
  pub way : ℕ → Bool
  -- the values of wires beside the cycle, those of columns that are needed for the cycle, and further ones for the way
  pub sides : List Pin
  pub needs : List Trit
  pub also : List Trit

-- ---- boxes

-- the value of a column, where it is needed
abbrev pub need_at : Picture → ℕ → Trit
need_at p column = or_else (slice_index_or p.needs column X) (slice_index_or p.also column X)

-- What holds gate n open on a pin: on the cycle a value of a wire beside it, and on the way one of a column.
abbrev pub held_at : Picture → ℕ → Sig → Pin
held_at p n pin =
    if p.cycle n then slice_index_or p.sides pin.0 Free
    else if p.way n then seen false (need_at p pin.0)
    else Free

-- a value as a line of a box
abbrev pub value_line : List ℕ → Pin → List ℕ
value_line name (Known false) = name ++ codes "=0\n"
value_line name (Known true) = name ++ codes "=1\n"
value_line name Open = name ++ codes "=x\n"
value_line name Free = []

abbrev pub pin_line : Picture → ℕ → Sig → List ℕ
pin_line p n pin = value_line (signal_name p.net pin) (held_at p n pin)

abbrev pub is_held : Pin → Bool
is_held Free = false
is_held other = true

abbrev pub gate_box : Picture → ℕ → List ℕ
gate_box p n =
    if list_any (λ pin. is_held (held_at p n pin)) (gate_at p.net n).pins
    then box (gate_sig p.net n).0 (flat_map (pin_line p n) (gate_at p.net n).pins)
    else []

-- ---- nodes

abbrev pub gate_opens : Trit → List ℕ
gate_opens X = codes " [color=red, label=\""
gate_opens value = codes " [label=\""

abbrev pub gate_node : Picture → ℕ → List ℕ
gate_node p n = node (gate_sig p.net n).0 (gate_opens (value_of p.values (gate_sig p.net n))) (gate_at p.net n).name (codes "\"];\n")

-- ---- wires

-- An unknown wire is red, and bold between gates of the cycle. A cut wire is dashed.
abbrev pub unknown_style : Bool → Bool → List ℕ
unknown_style false false = codes " [color=red];\n"
unknown_style false true = codes " [color=red, style=dashed];\n"
unknown_style true false = codes " [color=red, style=bold];\n"
unknown_style true true = codes " [color=red, style=\"bold,dashed\"];\n"

abbrev pub style : Trit → Bool → Bool → List ℕ
style X bold cut = unknown_style bold cut
style value bold cut = wire_style cut

-- the wire from gate m to gate n, where m is drawn
abbrev pub gate_wire : Picture → ℕ → ℕ → List ℕ
gate_wire p n m =
    if p.drawn m
    then wire (gate_sig p.net m).0 (gate_sig p.net n).0
    (style (value_of p.values (gate_sig p.net m)) (p.cycle m && p.cycle n) (p.loops.same n m && p.loops.cut m))
    else []

-- the wire that a pin of gate n reads, where a gate drives it that is drawn
abbrev pub pin_wire : Picture → ℕ → Sig → List ℕ
pin_wire p n pin = if nat_le (first_gate p.net) pin.0 then gate_wire p n (gate_of p.net pin) else []

abbrev pub pin_wires : Picture → ℕ → List ℕ
pin_wires p n = flat_map (pin_wire p n) (gate_at p.net n).pins

-- ---- the graph

abbrev pub drawn_gates : Picture → List ℕ
drawn_gates p = filter p.drawn (gate_numbers p.net)

abbrev pub picture : Picture → List ℕ
picture p =
    flat_map (gate_box p) (drawn_gates p)
    ++ (flat_map (gate_node p) (drawn_gates p) ++ flat_map (pin_wires p) (drawn_gates p))

abbrev pub is_one_of : List ℕ → ℕ → Bool
is_one_of gates n = list_any (λ gate. gate == n) gates

-- What is drawn of an explanation where the signals have these values: the gates of the cycle's loop, and those of the way.
abbrev pub picture_of : Parts → List Trit → Explanation → Picture
picture_of net values why = record {
  net = net;
  loops = loops_of net;
  values = values;
  drawn = λ n. (loops_of net).same (slice_index why.cycle 0) n || is_one_of why.way n;
  cycle = is_one_of why.cycle;
  way = is_one_of why.way;
  sides = why.sides;
  needs = why.needs;
  also = why.also;
}

-- it speaks of gates, signals and columns of the netlist
pub record IsExplanationOf (net : Parts) (why : Explanation) : Type 0 where
  pub cycle : All (λ gate. gate < length net.gates) why.cycle
  pub sides : length why.sides ≤ count net
  pub needs : length why.needs ≤ count net
  pub way : All (λ gate. gate < length net.gates) why.way
  pub also : length why.also ≤ count net

-- the graph of why this wire is undetermined
abbrev pub explanation_graph : Parts → Sig → List Trit → Explanation → List ℕ
explanation_graph net s values why = labelled_graph (wire_label net s) (picture (picture_of net values why))
