-- The texts that probes make of changes of a netlist.
use Rattle.std.specs.Prelude.{ℕ, ◌+◌, ◌-◌, ◌==◌, ◌&&◌, Bool, true, false, not, nat_lt, max, if◌then◌else◌, List, [], ◌++◌, length, filter, slice_index_or, codes, decimal}
use Rattle.std.specs.List.{flat_map, fold, sum_by, range_with_len}
use Rattle.cyc_base.specs.declared.sig.Sig.{Sig}
use Rattle.netlist.specs.declared.parts.Parts.{Parts}
use Rattle.netlist.specs.Netlists.{gate_sig, sig_eq, signal_names, signal_name}
use Rattle.delay_core.specs.declared.change.Change.{Change}

-- ---- trace: a line for each change

abbrev pub value_text : Bool → List ℕ
value_text false = codes "=0\n"
value_text true = codes "=1\n"

abbrev pub change_text : Parts → Change → List ℕ
change_text net change =
    (codes "at=" ++ decimal change.at)
    ++ ((codes " tick=" ++ decimal change.tick)
    ++ ((codes " round=" ++ decimal change.round)
    ++ (codes " " ++ (signal_name net change.sig ++ value_text change.value))))

abbrev pub trace_text : List Change → Parts → List ℕ
trace_text changes net = flat_map (change_text net) changes

-- the greatest tick of these changes; 0 where there is none
abbrev pub last_tick : List Change → ℕ
last_tick changes = fold (λ most change. max most change.tick) 0 changes

-- ---- last: for each tick, up to the last one of a change, the last round in which a gate changed

abbrev pub is_gate : Parts → Sig → Bool
is_gate net s = not (nat_lt s.0 (length net.inputs + length net.latches))

-- the round of a gate's change in this tick; 0 for any other change
abbrev pub round_in : Parts → ℕ → Change → ℕ
round_in net tick change = if change.tick == tick && is_gate net change.sig then change.round else 0

-- Rounds count from 1; 0 says that no gate changed in one.
abbrev pub last_round : Parts → List Change → ℕ → ℕ
last_round net changes tick = fold (λ most change. max most (round_in net tick change)) 0 changes

abbrev pub last_line : ℕ → ℕ → List ℕ
last_line tick round = (codes "last tick=" ++ decimal tick) ++ ((codes " round=" ++ decimal round) ++ codes "\n")

abbrev pub last_text : List Change → Parts → List ℕ
last_text changes net = flat_map (λ tick. last_line tick (last_round net changes tick)) (range_with_len 1 (last_tick changes))

-- ---- glitches: how often gates change without need

-- a change of this signal in this tick, in a round from 1 on
abbrev pub is_turn : Sig → ℕ → Change → Bool
is_turn s tick change = sig_eq change.sig s && (change.tick == tick && nat_lt 0 change.round)

-- how often it changes there, less 1 where it does
abbrev pub glitches_in : List Change → Sig → ℕ → ℕ
glitches_in changes s tick = length (filter (is_turn s tick) changes) - 1

-- over all ticks
abbrev pub glitches_of : List Change → Sig → ℕ
glitches_of changes s = sum_by (glitches_in changes s) (range_with_len 0 (last_tick changes + 1))

-- a line for each gate that has one
abbrev pub glitch_line : List ℕ → ℕ → List ℕ
glitch_line name glitches =
    if glitches == 0 then [] else codes "glitch " ++ (name ++ ((codes " count=" ++ decimal glitches) ++ codes "\n"))

abbrev pub gate_line : List Change → Parts → ℕ → List ℕ
gate_line changes net gate = glitch_line (signal_name net (gate_sig net gate)) (glitches_of changes (gate_sig net gate))

abbrev pub all_gates : Parts → List ℕ
all_gates net = range_with_len 0 (length net.gates)

abbrev pub total_glitches : List Change → Parts → ℕ
total_glitches changes net = sum_by (λ gate. glitches_of changes (gate_sig net gate)) (all_gates net)

abbrev pub glitches_text : List Change → Parts → List ℕ
glitches_text changes net =
    flat_map (gate_line changes net) (all_gates net) ++ ((codes "glitches=" ++ decimal (total_glitches changes net)) ++ codes "\n")
