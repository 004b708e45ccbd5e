-- The theorem of storms.
use Rattle.std.proofs.Common.{◌≡◌, ◌<◌, ◌≤◌, ◌+◌, ℕ, zero, suc, Bool, true, false, cond, List, [], ◌∷◌, ◌++◌, length, map, get_or, drop, zip, refl, ap, sym, ◌∙◌, arith, All}
use Rattle.std.specs.Prelude.{filter, if◌then◌else◌}
use Rattle.std.specs.List.{range_with_len}
use Rattle.std.proofs.lemmas.Bool.{ne_eqb}
use Rattle.std.proofs.lemmas.List.{length-map, length-append, length-drop, take-append-drop, map-append, get_or-append-add}
use Rattle.std.proofs.lemmas.List.Elements.{All-cons, All-map, All-nil}
use Rattle.std.proofs.lemmas.List.FromFn.{get_or-map-range_with_len, get_or-range_with_len, length-map-range_with_len, length-range_with_len}
use Rattle.std.proofs.lemmas.List.Sums.{length-filter}
use Rattle.cyc_base.specs.declared.trit.Trit.{Trit}
use Rattle.cyc_base.specs.Values.{bit, bits, Below, Completes}
use Rattle.cyc_base.proofs.OrderLemmas.{EachBelow-refl, EachBelow-append, Completes-from_at}
use Rattle.netlist.specs.declared.parts.Parts.{Parts}
use Rattle.netlist.specs.Netlists.{IsNetlist, count, gate_sig}
use Rattle.netlist.specs.Fixpoint.{wires, wire, fix, fix_gates}
use Rattle.netlist.proofs.FixpointLemmas.{length-steps}
use Rattle.schedules.specs.Moments.{History, Round, after_events, after_rounds}
use Rattle.schedules.specs.Fairness.{AreFairAfter}
use Rattle.schedules.specs.Runs.{Played, played}
use Rattle.delay_core.specs.declared.plan.PlannedEvent.{PlannedEvent}
use Rattle.delay_core.specs.declared.plan.RoundPlan.{RoundPlan}
use Rattle.delay_core.specs.Plans.{round_of, tick_of, IsPlayedFairly}
use Rattle.delay_core.specs.Laws.{FaultsAreUnfairness}
use Rattle.storm.specs.declared.planning.StormPlan.{StormPlan}
use Rattle.storm.specs.Laws.{FallsAndRises, EachRound, IsStorm, FitsOneTick, PlaysAsStorm, StormsNeverRest, inputs_in}
use Rattle.storm.specs.Plans.{is_unknown, or_zero, is_shaking, rest_value, plan_at}
use Rattle.storm.specs.Storms.{Turn, shakes, shaking_count, turn_event, turn_events, zeros_back, nth_round, storm_rounds, gates_with, storm_of}
use Rattle.storm.proofs.PlanLemmas.{fix_at_gate}
use Rattle.storm.proofs.MomentLemmas.{plan, Stands, shakes_is}
use Rattle.storm.proofs.RoundLemmas.{highs, During, round_leads, round_is_fair, length-round, falls_and_rises, turns_inside}

-- ---- how many gates shake

mapped_count : {A : Type 0} (p : A → Bool) (xs : List A) → length (filter (λ b. b) (map p xs)) ≡ length (filter p xs)
mapped_count p [] = refl
mapped_count p (x ∷ xs) = grind (arith, mapped_count p xs)

filter_same : {A : Type 0} (p q : A → Bool) (xs : List A) → All (λ x. p x ≡ q x) xs → filter p xs ≡ filter q xs
filter_same p q [] same = refl
filter_same p q (x ∷ xs) same =
    ap (λ (t : Bool). cond t (x ∷ filter p xs) (filter p xs)) (same 0 x (omega arith))
    ∙ ap (λ l. cond (q x) (x ∷ l) l) (filter_same p q xs (λ k d l. same (suc k) d (omega (arith, l))))

range_agrees : (p q : ℕ → Bool) (a n m : ℕ) → a + n ≤ m → ((k : ℕ) → k < m → p k ≡ q k) → All (λ k. p k ≡ q k) (range_with_len a n)
range_agrees p q a n m l same = λ i d inside. same (get_or (range_with_len a n) i d) (omega (arith, get_or-range_with_len a n i d (omega (arith, length-range_with_len a n)), length-range_with_len a n))

-- ---- the gates at the opening and in the past

zip_mapped : {A B C D : Type 0} (f : B × C → D) (p : A → B) (q : A → C) (xs : List A) → map f (zip (map p xs) (map q xs)) ≡ map (λ x. f (p x, q x)) xs
zip_mapped f p q [] = refl
zip_mapped f p q (x ∷ xs) = ap (λ l. f (p x, q x) ∷ l) (zip_mapped f p q xs)

chosen_above : (b : Bool) (x : Trit) → Below x (bit (if is_unknown x then b else or_zero x))
chosen_above b x = grind arith

chosen_where : (b : Bool) (x : Trit) → is_unknown x ≡ true → (if is_unknown x then b else or_zero x) ≡ b
chosen_where b x e = grind arith

back_later : (plan : StormPlan) (n : ℕ) → zeros_back plan (n + 1) ≡ shaking_count plan
back_later plan n = ap (λ (t : Bool). if t then 1 else shaking_count plan) (ne_eqb (n + 1) 0 (omega arith))

module _ (net : Parts) (v : List Bool) (valid : IsNetlist net) (wide : length v ≡ length net.inputs + length net.latches) where
  abbrev Gs : ℕ
  Gs = length net.gates

  abbrev F : List Trit
  F = fix net (bits v)

  abbrev P : StormPlan
  P = plan_at net F

  gates_are : (b : Bool) → gates_with P b ≡ map (λ n. if is_shaking net F n then b else rest_value net F n) (range_with_len 0 Gs)
  gates_are b = zip_mapped (λ gate. if gate.0 then b else gate.1) (is_shaking net F) (rest_value net F) (range_with_len 0 Gs)

  length-start : (b : Bool) → length (gates_with P b) ≡ Gs
  length-start b = ap length (gates_are b) ∙ length-map-range_with_len (λ n. if is_shaking net F n then b else rest_value net F n) 0 Gs

  gate_starts : (b : Bool) (n : ℕ) → n < Gs → get_or (gates_with P b) n false ≡ (if is_shaking net F n then b else rest_value net F n)
  gate_starts b n inside = ap (λ l. get_or l n false) (gates_are b) ∙ get_or-map-range_with_len (λ k. if is_shaking net F k then b else rest_value net F k) 0 Gs n n false inside (omega arith)

  moment_above : (b : Bool) → Completes F (wires v (gates_with P b))
  moment_above b =
      rw map-append
      (EachBelow-append (bits v) (bits v) (fix_gates net (bits v)) (bits (gates_with P b)) (EachBelow-refl (bits v))
      (Completes-from_at (fix_gates net (bits v)) (gates_with P b) (length-steps net (bits v) Gs ∙ sym (length-start b))
      (λ n l.
      let inside : n < Gs = let e = length-steps net (bits v) Gs in omega (arith, e, l) in
      rw (gate_starts b n inside, ← fix_at_gate net v wide n) (chosen_above b (wire F (gate_sig net n))))))

  pub stands_at_start : (b : Bool) → Stands net v valid wide b (wires v (gates_with P b))
  stands_at_start b = record {
    above = moment_above b;
    at = λ n inside shaking.
        ap (λ k. get_or (wires v (gates_with P b)) (k + n) false) (sym wide)
        ∙ get_or-append-add v (gates_with P b) n false
        ∙ gate_starts b n inside
        ∙ chosen_where b (wire F (gate_sig net n)) shaking;
  }

  count_shaking : length (highs net v valid wide 0 Gs) ≡ shaking_count P
  count_shaking =
      length-map (filter (shakes P) (range_with_len 0 Gs)) (λ n. record { gate = n; values = get_or P.high n [] })
      ∙ ap length (filter_same (shakes P) (is_shaking net F) (range_with_len 0 Gs) (range_agrees (shakes P) (is_shaking net F) 0 Gs Gs (omega arith) (shakes_is net v valid wide)))
      ∙ sym (mapped_count (is_shaking net F) (range_with_len 0 Gs))
      ∙ length-filter (λ b. b) P.shaking

  abbrev round_at : ℕ → Round
  round_at n = round_of (nth_round net P n)

  -- the rounds from a number on
  abbrev rounds_from : ℕ → ℕ → List Round
  rounds_from a n = map round_of (map (nth_round net P) (range_with_len a n))

  abbrev Begins : ℕ → History → Type 0
  Begins a h = During net v valid wide (zeros_back P a) 0 h

  next_begins : (a : ℕ) (h : History) → Begins a h → Begins (a + 1) (after_events net h (round_at a))
  next_begins a h begins = grind (arith, count_shaking, back_later P a, round_leads net v valid wide (zeros_back P a) h begins)

  rounds_are_fair : (a n : ℕ) (starts : List ℕ) (size : ℕ) → get_or starts 0 1 + zeros_back P a ≤ size → AreFairAfter net 1 starts size (rounds_from a n)
  rounds_are_fair a zero starts size l = tt
  rounds_are_fair a (suc n) starts size l =
      grind (arith, round_is_fair net v valid wide (zeros_back P a) (get_or starts 0 1) size l, rounds_are_fair (a + 1) n (size ∷ starts) (size + length (round_at a)), back_later P a, count_shaking, length-round net v valid wide (zeros_back P a))

  rounds_shake : (a n k : ℕ) (h : History) → Begins a h → k < Gs → is_shaking net F k ≡ true → EachRound net (FallsAndRises net k) h (rounds_from a n)
  rounds_shake a zero k h begins inside shaking = tt
  rounds_shake a (suc n) k h begins inside shaking =
      grind (arith, falls_and_rises net v valid wide k inside shaking (zeros_back P a) h begins (begins.ones.at k inside shaking), rounds_shake (a + 1) n k (after_events net h (round_at a)) (next_begins a h begins) inside shaking, next_begins a h begins)

  rounds_rest : (a n : ℕ) (h : History) → Begins a h → All (Completes F) (after_rounds net h (rounds_from a n))
  rounds_rest a zero h begins = begins.all
  rounds_rest a (suc n) h begins = rounds_rest (a + 1) n (after_events net h (round_at a)) (next_begins a h begins)

  abbrev opening : History
  opening = wires v (gates_with P true) ∷ (wires v (gates_with P false) ∷ [])

  begins_here : Begins 0 opening
  begins_here = record {
    all = All-cons (Completes F) (wires v (gates_with P true)) (wires v (gates_with P false) ∷ []) (moment_above true)
        (All-cons (Completes F) (wires v (gates_with P false)) [] (moment_above false) (All-nil (Completes F)));
    some = omega arith;
    ones = stands_at_start true;
    zeros = stands_at_start false;
  }

  module _ (rounds : ℕ) where
    abbrev the_tick : Played
    the_tick = played net ((wires v (gates_with P false)) ∷ []) (drop (length net.inputs) v) (gates_with P true) (tick_of (inputs_in net v, storm_rounds net P rounds))

    opened_is : wires (inputs_in net v ++ drop (length net.inputs) v) (gates_with P true) ∷ (wires v (gates_with P false) ∷ []) ≡ opening
    opened_is = ap (λ vector. wires vector (gates_with P true) ∷ (wires v (gates_with P false) ∷ [])) (take-append-drop (length net.inputs) v)

    tick_is_storm : IsStorm net v the_tick
    tick_is_storm = grind (arith, opened_is, rounds_are_fair 0 rounds [] 2, rounds_shake 0 rounds, begins_here, rounds_rest 0 rounds opening begins_here)

    width : (b : Bool) → length (wires v (gates_with P b)) ≡ count net
    width b = let a = length-append v (gates_with P b) in let s = length-start b in omega (arith, a, s, wide)

    events_inside : (back i : ℕ) (ts : List Turn) → All (λ (turn : Turn). turn.gate < Gs) ts → All (λ (planned : PlannedEvent). planned.event.gate < Gs) (turn_events net P back i ts)
    events_inside back i [] inside = All-nil (λ (planned : PlannedEvent). planned.event.gate < Gs)
    events_inside back i (turn ∷ ts) inside =
        All-cons (λ (planned : PlannedEvent). planned.event.gate < Gs) (turn_event net P back i turn) (turn_events net P back (suc i) ts)
        (inside 0 turn (omega arith)) (events_inside back (suc i) ts (λ k d l. inside (suc k) d (omega (arith, l))))

    abbrev RoundInside : RoundPlan → Type 0
    RoundInside round = All (λ (planned : PlannedEvent). planned.event.gate < Gs) round.events

    rounds_inside : (ns : List ℕ) → All RoundInside (map (nth_round net P) ns)
    rounds_inside ns = grind (arith, All-map RoundInside (nth_round net P) ns, events_inside, turns_inside net v valid wide)

    fits : FitsOneTick net (storm_of net v rounds)
    fits =
        grind (arith, All-cons, width false, All-nil, length-drop (length net.inputs) v, length-start true, All-cons (All RoundInside) (storm_rounds net P rounds) [] (rounds_inside (range_with_len 0 rounds)) (All-nil (All RoundInside)), rounds_inside (range_with_len 0 rounds), All-nil (All RoundInside))

    plays : FaultsAreUnfairness → PlaysAsStorm net v (storm_of net v rounds)
    plays faults = record {
      fits = fits;
      no_fault = (faults net (storm_of net v rounds) (inputs_in net v ∷ [])).1
          (All-cons (IsPlayedFairly net 1) the_tick [] tick_is_storm.fair (All-nil (IsPlayedFairly net 1)));
      storm = All-cons (IsStorm net v) the_tick [] tick_is_storm (All-nil (IsStorm net v));
    }

pub storms_never_rest : FaultsAreUnfairness → StormsNeverRest
storms_never_rest faults net v rounds valid wide = plays net v valid wide rounds faults
