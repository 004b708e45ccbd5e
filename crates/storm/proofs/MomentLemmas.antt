-- What the pins of a gate see in moments that stand at the fixpoint but for the shaking gates.
use Rattle.std.proofs.Common.{◌≡◌, inl, inr, ◌<◌, ◌+◌, ◌-◌, ℕ, Bool, true, false, not, ◌&&◌, List, [], ◌∷◌, length, map, get_or, zip, refl, ap, sym, ◌∙◌, arith, All}
use Rattle.std.specs.Prelude.{if◌then◌else◌}
use Rattle.std.proofs.lemmas.Bool.{cases_lt}
use Rattle.std.proofs.lemmas.Bool.Decides.{nat_tests}
use Rattle.std.proofs.lemmas.List.{length-map, get_or_append_left, get_or-map}
use Rattle.std.proofs.lemmas.List.Elements.{All-head, All-tail, All-get_or}
use Rattle.std.proofs.lemmas.List.FromFn.{get_or-map-range_with_len}
use Rattle.cyc_base.specs.declared.sig.Sig.{Sig}
use Rattle.cyc_base.specs.declared.trit.Trit.{Trit}
use Rattle.cyc_base.specs.declared.trit.Trit.TheVariants.{X}
use Rattle.cyc_base.specs.Values.{bit, bits, Below, Completes}
use Rattle.cyc_base.proofs.OrderLemmas.{Completes-at, Completes-length}
use Rattle.cover_logic.specs.Covers.{value}
use Rattle.cover_logic.specs.Extensions.{ext}
use Rattle.cover_logic.proofs.ExtensionLemmas.{ext_below_value}
use Rattle.netlist.specs.declared.parts.Gate.{Gate}
use Rattle.netlist.specs.declared.parts.Parts.{Parts}
use Rattle.netlist.specs.Netlists.{gate_at, gate_sig, no_gate, IsNetlist, IsSignal}
use Rattle.netlist.specs.Fixpoint.{wire, fix, fix_gates}
use Rattle.schedules.specs.Moments.{Moment, History, bit_at, moment_at, seen, event_value}
use Rattle.schedules.proofs.RunLemmas.{signals_above}
use Rattle.storm.specs.declared.planning.StormPlan.{StormPlan}
use Rattle.storm.specs.Least.{IsLeastWhere}
use Rattle.storm.specs.Plans.{is_unknown, is_shaking, pin_values, plan_at}
use Rattle.storm.specs.Storms.{Turn, shakes, is_of_shaking, pin_age, turn_event}
use Rattle.storm.proofs.LeastLemmas.{least_is_least}
use Rattle.storm.proofs.PlanLemmas.{fix_is_fixed, unknown_is_no_bit}

bit_is_known : (b : Bool) → is_unknown (bit b) ≡ false
bit_is_known b = grind arith

-- two bits above one known value
pub same_above : (x : Trit) (a b : Bool) → is_unknown x ≡ false → Below x (bit a) → Below x (bit b) → a ≡ b
same_above x a b known ha hb = grind arith

below_of_unknown : (x y : Trit) → is_unknown x ≡ true → Below x y
below_of_unknown x y e = grind arith

module _ (net : Parts) (v : List Bool) (valid : IsNetlist net) (wide : length v ≡ length net.inputs + length net.latches) where
  abbrev pub fixed : List Trit
  fixed = fix net (bits v)

  abbrev pub plan : StormPlan
  plan = plan_at net fixed

  -- the moment stands at the fixpoint, with the shaking gates at this value
  pub record Stands (b : Bool) (m : Moment) : Type 0 where
    pub above : Completes fixed m
    pub at : (n : ℕ) → n < length net.gates → is_shaking net fixed n ≡ true → bit_at m (gate_sig net n) ≡ b

  pub shakes_is : (n : ℕ) → n < length net.gates → shakes plan n ≡ is_shaking net fixed n
  shakes_is n inside = get_or-map-range_with_len (is_shaking net fixed) 0 (length net.gates) n n false inside (omega arith)

  given_is_known : (s : Sig) → s.0 < length net.inputs + length net.latches → is_unknown (wire fixed s) ≡ false
  given_is_known s inside = grind (arith, length-map v bit, get_or_append_left (bits v) (fix_gates net (bits v)) X s.0, get_or-map bit v s.0 false X, bit_is_known (get_or v s.0 false))

  -- a signal is that of a shaking gate exactly where it is unknown
  pub of_shaking_is : (s : Sig) → IsSignal net s → is_of_shaking net plan s ≡ is_unknown (wire fixed s)
  of_shaking_is s inside =
      let given : ℕ = length net.inputs + length net.latches in
      grind (arith, cases_lt s.0 given, nat_tests, given_is_known s, shakes_is (s.0 - given))

  -- a shaking signal has the value at which the shaking gates stand
  stands_at : (b : Bool) (m : Moment) (s : Sig) → Stands b m → IsSignal net s → is_unknown (wire fixed s) ≡ true → bit_at m s ≡ b
  stands_at b m s stands inside unknown =
      let given : ℕ = length net.inputs + length net.latches in
      elim (cases_lt s.0 given) [
        | inl column ↦ let known = given_is_known s column in cc
        | inr late ↦
            let place : (gate_sig net (s.0 - given)).0 ≡ s.0 = omega arith in
            let inside : s.0 - given < length net.gates = omega (arith, inside) in
            ap (λ k. get_or m k false) (sym place)
            ∙ stands.at (s.0 - given) inside (ap (λ k. is_unknown (get_or fixed k X)) place ∙ unknown)
      ]

  -- a known one has its value of the fixpoint
  known_at : (b : Bool) (m : Moment) (s : Sig) → Completes fixed m → is_unknown (wire fixed s) ≡ false → Below (wire fixed s) (bit b) → bit_at m s ≡ b
  known_at b m s above known below = same_above (wire fixed s) (bit_at m s) b known (Completes-at fixed m s.0 above) below

  -- the values of a shaking gate's turn are the least ones
  module _ (turn : Turn) (inside : turn.gate < length net.gates) (wanted : Bool) (shaking : is_shaking net fixed turn.gate ≡ true) (values : turn.values ≡ pin_values net fixed wanted turn.gate) where
    pub turn_least : IsLeastWhere (value (gate_at net turn.gate).cover) wanted (map (wire fixed) (gate_at net turn.gate).pins) turn.values
    turn_least =
        let gate : Gate = gate_at net turn.gate in
        grind (arith, fix_is_fixed net v wide, least_is_least (value gate.cover) wanted (map (wire fixed) gate.pins), unknown_is_no_bit (ext gate.cover (map (wire fixed) gate.pins)) (not wanted))

    pub turn_width : length turn.values ≡ length (gate_at net turn.gate).pins
    turn_width = sym (Completes-length (map (wire fixed) (gate_at net turn.gate).pins) turn.values turn_least.above) ∙ length-map (gate_at net turn.gate).pins (wire fixed)

  module _ (back i : ℕ) (h : History) (ones : Stands true (moment_at h i)) (zeros : Stands false (moment_at h (i + back))) where
    pin_by : (s : Sig) (b unknown : Bool) → IsSignal net s → is_unknown (wire fixed s) ≡ unknown → Below (wire fixed s) (bit b) → bit_at (moment_at h (if unknown && not b then i + back else i)) s ≡ b
    pin_by s true true inside is below = stands_at true (moment_at h i) s ones inside is
    pin_by s false true inside is below = stands_at false (moment_at h (i + back)) s zeros inside is
    pin_by s b false inside is below = known_at b (moment_at h i) s ones.above is below

    -- a pin sees the value that it is to see
    pin_sees : (s : Sig) (b : Bool) → IsSignal net s → Below (wire fixed s) (bit b) → bit_at (moment_at h (pin_age net plan back i (s, b))) s ≡ b
    pin_sees s b inside below = grind (arith, of_shaking_is s inside, pin_by s b (is_unknown (wire fixed s)) inside)

    pins_see : (pins : List Sig) (bs : List Bool) → All (IsSignal net) pins → Completes (map (wire fixed) pins) bs → seen h pins (map (pin_age net plan back i) (zip pins bs)) ≡ bs
    pins_see [] [] inside above = refl
    pins_see [] (b ∷ bs) inside above = absurd above
    pins_see (s ∷ pins) [] inside above = absurd above
    pins_see (s ∷ pins) (b ∷ bs) inside above =
        grind (arith, pin_sees s b (All-head (IsSignal net) s pins inside) above.0, All-head (IsSignal net) s pins inside, pins_see pins bs (All-tail (IsSignal net) s pins inside) above.1, All-tail (IsSignal net) s pins inside)

    resting_see : (pins : List Sig) → seen h pins (map (λ (pin : Sig). i) pins) ≡ map (bit_at (moment_at h i)) pins
    resting_see [] = refl
    resting_see (s ∷ pins) = ap (λ l. bit_at (moment_at h i) s ∷ l) (resting_see pins)

    module _ (turn : Turn) (inside : turn.gate < length net.gates) where
      abbrev gate : Gate
      gate = gate_at net turn.gate

      signals : All (IsSignal net) gate.pins
      signals = All-get_or (λ (g : Gate). All (IsSignal net) g.pins) net.gates turn.gate no_gate inside valid.pins

      abbrev event_at : Bool
      event_at = event_value net h (turn_event net plan back i turn).event

      -- a shaking gate takes the value that its turn is to give
      pub shaking_takes : (wanted : Bool) → is_shaking net fixed turn.gate ≡ true → turn.values ≡ pin_values net fixed wanted turn.gate → event_at ≡ wanted
      shaking_takes wanted shaking values = grind (arith, turn_least turn inside wanted shaking values, shakes_is turn.gate inside, pins_see gate.pins turn.values signals, signals)

      -- any other keeps its value of the fixpoint
      resting_by : (shaking : Bool) → is_shaking net fixed turn.gate ≡ shaking → Below (wire fixed (gate_sig net turn.gate)) (bit event_at)
      resting_by true is = below_of_unknown (wire fixed (gate_sig net turn.gate)) (bit event_at) is
      resting_by false is =
          grind (arith, shakes_is turn.gate inside, resting_see gate.pins, fix_is_fixed net v wide, ext_below_value gate.cover (map (wire fixed) gate.pins) (map (bit_at (moment_at h i)) gate.pins) (signals_above fixed (moment_at h i) gate.pins ones.above), signals_above fixed (moment_at h i) gate.pins ones.above)

      pub takes_above : Below (wire fixed (gate_sig net turn.gate)) (bit event_at)
      takes_above = resting_by (is_shaking net fixed turn.gate) refl
