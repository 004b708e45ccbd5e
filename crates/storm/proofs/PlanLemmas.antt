-- The parts of a plan.
use Rattle.std.proofs.Common.{◌≡◌, ◌≢◌, ◌≤◌, ◌+◌, ◌*◌, ℕ, suc, Bool, true, false, not, List, [], ◌∷◌, ◌++◌, length, map, get_or, refl, ap, sym, ◌∙◌, arith, Some, None, append_assoc, ◌==◌}
use Rattle.std.proofs.Math.Numerals.{add-one}
use Rattle.std.specs.Prelude.{filter, min, if◌then◌else◌}
use Rattle.std.specs.List.{range_with_len, list_any}
use Rattle.std.proofs.lemmas.List.{length-map, length-append, get_or-append-add, get_or-map, map-append}
use Rattle.std.proofs.lemmas.List.Folds.{list_any_at}
use Rattle.std.proofs.lemmas.List.Elements.{filter-append}
use Rattle.std.proofs.lemmas.List.Filters.{length-filter_both}
use Rattle.std.proofs.lemmas.List.FromFn.{get_or-map-range_with_len, length-range_with_len, length-map-range_with_len, map-range_with_len_more}
use Rattle.cyc_base.specs.declared.trit.Trit.{Trit}
use Rattle.cyc_base.specs.declared.trit.Trit.TheVariants.{X}
use Rattle.cyc_base.specs.Values.{bit, bits}
use Rattle.cyc_base.proofs.ListLemmas.{range-suc}
use Rattle.netlist.specs.declared.parts.Parts.{Parts}
use Rattle.netlist.specs.Netlists.{gate_sig, no_gate}
use Rattle.netlist.specs.Fixpoint.{wire, fix, fix_gates, gate_value}
use Rattle.netlist.proofs.FixpointLemmas.{fix_is_fixpoint, length-steps}
use Rattle.delay_core.specs.declared.plan.PlannedEvent.{PlannedEvent}
use Rattle.storm.specs.declared.planning.StormPlan.{StormPlan}
use Rattle.storm.specs.Building.{AreFixed, FitsRound}
use Rattle.storm.specs.Laws.{UnknownGatesHavePlans}
use Rattle.storm.specs.Plans.{is_unknown, is_shaking, rest_value, pin_values, each_gate, plan_at, storm_plan}
use Rattle.storm.specs.Storms.{Turn, shakes, low_turn, high_turn, turns, turn_event, turn_events, storm_round, zeros_back, shaking_count, most_events, storm_events}

-- ---- the values of the fixpoint are fixed

module _ (net : Parts) (v : List Bool) (wide : length v ≡ length net.inputs + length net.latches) where
  length-given : length (bits v) ≡ length net.inputs + length net.latches
  length-given = length-map v bit ∙ wide

  pub fix_at_gate : (n : ℕ) → wire (fix net (bits v)) (gate_sig net n) ≡ get_or (fix_gates net (bits v)) n X
  fix_at_gate n = grind (arith, length-given, get_or-append-add (bits v) (fix_gates net (bits v)) n X)

  pub fix_is_fixed : AreFixed net (fix net (bits v))
  fix_is_fixed = record {
    width = let a = length-append (bits v) (fix_gates net (bits v)) in let b = length-given in let c = length-steps net (bits v) (length net.gates) in omega (arith, a, b, c);
    gates = λ n inside.
        fix_at_gate n
        ∙ ap (λ gates. get_or gates n X) (sym (fix_is_fixpoint net (bits v)))
        ∙ get_or-map (gate_value (fix net (bits v))) net.gates n no_gate X inside;
  }

-- ---- a known or unknown value

pub unknown_is_no_bit : (x : Trit) (b : Bool) → is_unknown x ≡ true → x ≢ bit b
unknown_is_no_bit x b e same = grind arith

-- ---- lists that grow

at_least : (rounds turns : ℕ) → 1 ≤ rounds → rounds * turns ≤ most_events → turns ≤ most_events
at_least rounds turns some few = grind arith

-- one more item of a list by numbers
pub one_more : {T : Type 0} (f : ℕ → T) (n : ℕ) (old new : List T) (x : T) → new ≡ old ++ x ∷ [] → old ≡ map f (range_with_len 0 n) → x ≡ f n → new ≡ map f (range_with_len 0 (n + 1))
one_more f n old new x pushed listed is = grind (arith, map-range_with_len_more f 0 n n)

module _ (net : Parts) (plan : StormPlan) (back : ℕ) where
  pub length-turn_events : (i : ℕ) (ts : List Turn) → length (turn_events net plan back i ts) ≡ length ts
  length-turn_events i [] = refl
  length-turn_events i (t ∷ ts) = ap suc (length-turn_events (suc i) ts)

  pub turn_events-append : (i : ℕ) (ts us : List Turn) → turn_events net plan back i (ts ++ us) ≡ turn_events net plan back i ts ++ turn_events net plan back (i + length ts) us
  turn_events-append i [] us = ap (λ j. turn_events net plan back j us) (let e : i ≡ i + 0 = omega arith in e)
  turn_events-append i (t ∷ ts) us = grind (arith, turn_events-append (suc i) ts us)

  -- the first half with one more gate
  pub low_more : (n : ℕ) (old new : List PlannedEvent) (values : List Bool) → new ≡ old ++ turn_event net plan back (length old) (record { gate = n; values = values }) ∷ []
      → values ≡ get_or plan.low n [] → old ≡ turn_events net plan back 0 (map (low_turn plan) (range_with_len 0 n)) → new ≡ turn_events net plan back 0 (map (low_turn plan) (range_with_len 0 (n + 1)))
  low_more n old new values pushed is listed =
      let before : List Turn = map (low_turn plan) (range_with_len 0 n) in
      grind (arith, length-turn_events 0 before, map-range_with_len_more (low_turn plan) 0 n n, turn_events-append 0 before (low_turn plan n ∷ []))

  pub low_count : (n : ℕ) → length (turn_events net plan back 0 (map (low_turn plan) (range_with_len 0 n))) ≡ n
  low_count n = length-turn_events 0 (map (low_turn plan) (range_with_len 0 n)) ∙ length-map-range_with_len (low_turn plan) 0 n

  -- the second half with one more gate
  abbrev pub high_turns : ℕ → List Turn
  high_turns n = map (high_turn plan) (filter (shakes plan) (range_with_len 0 n))

  high_turns-more : (n : ℕ) → high_turns (n + 1) ≡ high_turns n ++ map (high_turn plan) (filter (shakes plan) (n ∷ []))
  high_turns-more n = grind (arith, add-one n, range-suc 0 n, filter-append (shakes plan) (range_with_len 0 n) (n ∷ []), map-append (high_turn plan) (filter (shakes plan) (range_with_len 0 n)) (filter (shakes plan) (n ∷ [])))

  pub high_more : (n : ℕ) (first old new : List PlannedEvent) → new ≡ old ++ turn_events net plan back (length old) (map (high_turn plan) (filter (shakes plan) (n ∷ [])))
      → old ≡ first ++ turn_events net plan back (length first) (high_turns n) → new ≡ first ++ turn_events net plan back (length first) (high_turns (n + 1))
  high_more n first old new pushed listed =
      let before : List PlannedEvent = turn_events net plan back (length first) (high_turns n) in
      let next : List Turn = map (high_turn plan) (filter (shakes plan) (n ∷ [])) in
      let count : length old ≡ length first + length (high_turns n) =
      ap length listed ∙ length-append first before ∙ ap (λ k. length first + k) (length-turn_events (length first) (high_turns n)) in
      rw (pushed, count, listed, high_turns-more n, turn_events-append (length first) (high_turns n) next)
      (append_assoc first before (turn_events net plan back (length first + length (high_turns n)) next))

  pub high_count : (n : ℕ) (first old : List PlannedEvent) → old ≡ first ++ turn_events net plan back (length first) (high_turns n) → length old ≤ length first + n
  high_count n first old listed =
      let size : length old ≡ length first + length (turn_events net plan back (length first) (high_turns n)) = ap length listed ∙ length-append first (turn_events net plan back (length first) (high_turns n)) in
      let events : length (turn_events net plan back (length first) (high_turns n)) ≡ length (high_turns n) = length-turn_events (length first) (high_turns n) in
      let turns : length (high_turns n) ≡ length (filter (shakes plan) (range_with_len 0 n)) = length-map (filter (shakes plan) (range_with_len 0 n)) (high_turn plan) in
      let few = length-filter_both (shakes plan) (λ k. not (shakes plan k)) (λ k. refl) (range_with_len 0 n) in
      let all : length (range_with_len 0 n) ≡ n = length-range_with_len 0 n in
      omega (arith, size, events, turns, few, all)

-- ---- the plan of a vector

if_some : {A : Type 0} (t : Bool) (x y : A) → (if t then Some x else None) ≡ Some y → y ≡ x
if_some t x y e = grind arith

module _ (net : Parts) (v : List Bool) (plan : StormPlan) where
  module _ (made : storm_plan net v ≡ Some plan) where
    pub plan_is : plan ≡ plan_at net (fix net (bits v))
    plan_is = if_some (list_any (λ shakes. shakes) (plan_at net (fix net (bits v))).shaking) (plan_at net (fix net (bits v))) plan made

    pub length-shaking : length plan.shaking ≡ length net.gates
    length-shaking = ap (λ (p : StormPlan). length p.shaking) plan_is ∙ length-map-range_with_len (is_shaking net (fix net (bits v))) 0 (length net.gates)

    -- a storm that isn't too large has rounds of few events
    pub fits_round : (rounds : ℕ) → 1 ≤ rounds → storm_events net plan rounds ≤ most_events → FitsRound net plan
    fits_round rounds some few = record {
      shaking = length-shaking;
      rest = ap (λ (p : StormPlan). length p.rest) plan_is ∙ length-map-range_with_len (rest_value net (fix net (bits v))) 0 (length net.gates);
      low = ap (λ (p : StormPlan). length p.low) plan_is ∙ length-map-range_with_len (pin_values net (fix net (bits v)) false) 0 (length net.gates);
      high = ap (λ (p : StormPlan). length p.high) plan_is ∙ length-map-range_with_len (pin_values net (fix net (bits v)) true) 0 (length net.gates);
      few = at_least rounds (length net.gates + shaking_count plan) some few;
    }

-- ---- rounds

few_by : (net : Parts) (plan : StormPlan) (first : Bool) → FitsRound net plan → (if first then 1 else shaking_count plan) ≤ most_events
few_by net plan first fits = grind arith

pub few_back : (net : Parts) (plan : StormPlan) (n : ℕ) → FitsRound net plan → zeros_back plan n ≤ most_events
few_back net plan n fits = few_by net plan (n == 0) fits

-- a round is its two halves
pub both_halves : (net : Parts) (plan : StormPlan) (back : ℕ) (low all : List PlannedEvent) → low ≡ turn_events net plan back 0 (each_gate net (low_turn plan))
    → all ≡ low ++ turn_events net plan back (length low) (high_turns net plan back (length net.gates))
    → record { line = 0; events = all } ≡ storm_round net plan back
both_halves net plan back low all is whole =
    let first : List Turn = each_gate net (low_turn plan) in
    let second : List Turn = high_turns net plan back (length net.gates) in
    grind (arith, length-turn_events net plan back 0 first, turn_events-append net plan back 0 first second)

-- a product that is cut off at the greatest number, and isn't over the limit
pub not_over : (events found : ℕ) → found ≡ min events 18446744073709551615 → found ≤ most_events → events ≤ most_events
not_over events found is few = let few : min events 18446744073709551615 ≤ most_events = rw (← is) few in omega arith

-- a gate that is unknown makes a plan
pub unknown_gates_have_plans : UnknownGatesHavePlans
unknown_gates_have_plans net v n inside unknown =
    let values : List Trit = fix net (bits v) in
    grind (arith, get_or-map-range_with_len (is_shaking net values) 0 (length net.gates) n n false inside, length-map-range_with_len (is_shaking net values) 0 (length net.gates), list_any_at)
