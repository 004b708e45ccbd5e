-- The storm of a plan: the schedule that keeps the shaking gates changing. In each round each gate is computed once in
-- flat order, which turns the shaking ones to 0, and then each shaking gate once more, which turns it to 1.
use Rattle.std.specs.Prelude.{ℕ, suc, ◌+◌, ◌-◌, ◌*◌, ◌==◌, ◌&&◌, nat_le, Bool, true, false, not, List, [], ◌∷◌, ◌++◌, length, map, drop, filter, count_by, zip, slice_index_or, if◌then◌else◌}
use Rattle.std.specs.List.{range_with_len}
use Rattle.cyc_base.specs.declared.sig.Sig.{Sig}
use Rattle.cyc_base.specs.Values.{bits}
use Rattle.netlist.specs.declared.parts.Parts.{Parts}
use Rattle.netlist.specs.Netlists.{gate_at}
use Rattle.netlist.specs.Fixpoint.{wires, fix}
use Rattle.delay_core.specs.declared.plan.PlannedEvent.{PlannedEvent}
use Rattle.delay_core.specs.declared.plan.RoundPlan.{RoundPlan}
use Rattle.delay_core.specs.declared.plan.Schedule.{Schedule}
use Rattle.storm.specs.declared.planning.StormPlan.{StormPlan}
use Rattle.storm.specs.Plans.{plan_at, each_gate}

abbrev pub shakes : StormPlan → ℕ → Bool
shakes plan n = slice_index_or plan.shaking n false

-- the signal is that of a shaking gate
abbrev pub is_of_shaking : Parts → StormPlan → Sig → Bool
is_of_shaking net plan s =
    let given = length net.inputs + length net.latches in nat_le given s.0 && shakes plan (s.0 - given)

-- how many gates shake
abbrev pub shaking_count : StormPlan → ℕ
shaking_count plan = count_by (λ shakes. shakes) plan.shaking

-- a gate in its turn, with the values that its pins are to see
pub record Turn : Type 0 where
  pub gate : ℕ
  pub values : List Bool

abbrev pub low_turn : StormPlan → ℕ → Turn
low_turn plan n = record { gate = n; values = slice_index_or plan.low n [] }

abbrev pub high_turn : StormPlan → ℕ → Turn
high_turn plan n = record { gate = n; values = slice_index_or plan.high n [] }

-- each gate in flat order, and then each shaking one
abbrev pub turns : Parts → StormPlan → List Turn
turns net plan =
    each_gate net (low_turn plan) ++ map (high_turn plan) (filter (shakes plan) (range_with_len 0 (length net.gates)))

-- The age of a pin, behind so many events of the round: that of the round's first moment, or, where it is to see a 0 on
-- a shaking gate, that of the moment `back` ones before it.
abbrev pub pin_age : Parts → StormPlan → ℕ → ℕ → Sig × Bool → ℕ
pin_age net plan back i pin = if is_of_shaking net plan pin.0 && not pin.1 then i + back else i

abbrev pub ages : Parts → StormPlan → ℕ → ℕ → Turn → List ℕ
ages net plan back i turn =
    let pins = (gate_at net turn.gate).pins in
    if shakes plan turn.gate then map (pin_age net plan back i) (zip pins turn.values) else map (λ pin. i) pins

abbrev pub turn_event : Parts → StormPlan → ℕ → ℕ → Turn → PlannedEvent
turn_event net plan back i turn =
    record { line = 0; event = record { gate = turn.gate; ages = ages net plan back i turn } }

-- the events of these turns, behind so many of the round
abbrev pub turn_events : Parts → StormPlan → ℕ → ℕ → List Turn → List PlannedEvent
turn_events net plan back i [] = []
turn_events net plan back i (turn ∷ later) =
    turn_event net plan back i turn ∷ turn_events net plan back (suc i) later

abbrev pub storm_round : Parts → StormPlan → ℕ → RoundPlan
storm_round net plan back = record { line = 0; events = turn_events net plan back 0 (turns net plan) }

-- How many moments before its first one a round finds the shaking gates at 0: the past has them so, and then each round
-- behind its first half.
abbrev pub zeros_back : StormPlan → ℕ → ℕ
zeros_back plan round = if round == 0 then 1 else shaking_count plan

abbrev pub nth_round : Parts → StormPlan → ℕ → RoundPlan
nth_round net plan n = storm_round net plan (zeros_back plan n)

abbrev pub storm_rounds : Parts → StormPlan → ℕ → List RoundPlan
storm_rounds net plan rounds = map (nth_round net plan) (range_with_len 0 rounds)

-- the gates with the shaking ones at this value, and the others at rest
abbrev pub gates_with : StormPlan → Bool → List Bool
gates_with plan b = map (λ gate. if gate.0 then b else gate.1) (zip plan.shaking plan.rest)

-- the storm of a plan for a vector, with so many rounds
abbrev pub storm_by : Parts → List Bool → StormPlan → ℕ → Schedule
storm_by net v plan rounds = record {
  window = 1;
  past = wires v (gates_with plan false) ∷ [];
  free = true;
  latches = drop (length net.inputs) v;
  gates = gates_with plan true;
  ticks = storm_rounds net plan rounds ∷ [];
}

-- the storm of a vector
abbrev pub storm_of : Parts → List Bool → ℕ → Schedule
storm_of net v rounds = storm_by net v (plan_at net (fix net (bits v))) rounds

-- how many events it has
abbrev pub storm_events : Parts → StormPlan → ℕ → ℕ
storm_events net plan rounds = rounds * (length net.gates + shaking_count plan)

abbrev pub most_events : ℕ
most_events = 4000000
