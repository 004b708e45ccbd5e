-- What a storm needs of a vector: the gates that its fixpoint leaves unknown, and the values at which their pins keep
-- them changing.
use Rattle.std.specs.Prelude.{ℕ, Bool, true, false, List, [], length, map, Some, None, unwrap_or, if◌then◌else◌}
use Rattle.std.specs.List.{range_with_len, list_any}
use Rattle.std.specs.declared.option.Option.{Option}
use Rattle.cyc_base.specs.declared.trit.Trit.{Trit}
use Rattle.cyc_base.specs.declared.trit.Trit.TheVariants.{X}
use Rattle.cyc_base.specs.Values.{bits, known_bit}
use Rattle.cover_logic.specs.Covers.{value}
use Rattle.netlist.specs.declared.parts.Parts.{Parts}
use Rattle.netlist.specs.Netlists.{gate_at, gate_sig}
use Rattle.netlist.specs.Fixpoint.{wire, fix}
use Rattle.storm.specs.declared.planning.StormPlan.{StormPlan}
use Rattle.storm.specs.Least.{least_where}

abbrev pub is_unknown : Trit → Bool
is_unknown X = true
is_unknown other = false

-- a value, or 0 where it is unknown
abbrev pub or_zero : Trit → Bool
or_zero trit = unwrap_or (known_bit trit) false

-- the gate of this number is unknown where the signals have these values
abbrev pub is_shaking : Parts → List Trit → ℕ → Bool
is_shaking net values n = is_unknown (wire values (gate_sig net n))

-- what it has where it is known
abbrev pub rest_value : Parts → List Trit → ℕ → Bool
rest_value net values n = or_zero (wire values (gate_sig net n))

-- The least values of an unknown gate's pins, above those of their signals, at which its cover is 0, or 1. There are
-- none for the other gates.
abbrev pub pin_values : Parts → List Trit → Bool → ℕ → List Bool
pin_values net values wanted n =
    let gate = gate_at net n in
    if is_shaking net values n then least_where (value gate.cover) wanted (map (wire values) gate.pins) else []

-- a list of one item for each gate
abbrev pub each_gate : {T : Type 0} → Parts → (ℕ → T) → List T
each_gate net f = map f (range_with_len 0 (length net.gates))

abbrev pub plan_at : Parts → List Trit → StormPlan
plan_at net values = record {
  shaking = each_gate net (is_shaking net values);
  rest = each_gate net (rest_value net values);
  low = each_gate net (pin_values net values false);
  high = each_gate net (pin_values net values true);
}

-- the plan of a vector, where its fixpoint leaves a gate unknown
abbrev pub if_shaking : StormPlan → Option StormPlan
if_shaking plan = if list_any (λ shakes. shakes) plan.shaking then Some plan else None

abbrev pub storm_plan : Parts → List Bool → Option StormPlan
storm_plan net v = if_shaking (plan_at net (fix net (bits v)))
