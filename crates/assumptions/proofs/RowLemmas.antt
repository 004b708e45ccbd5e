-- The row of an explanation has open vectors alone, and that of which the explanation is one.
use Rattle.std.proofs.Common.{◌≡◌, ◌≢◌, inl, inr, ℕ, zero, suc, ◌+◌, ◌-◌, ◌<◌, ◌≤◌, Bool, true, List, [], ◌∷◌, ◌++◌, length, map, get_or, Option, Some, None, IfSome, ap, sym, ◌∙◌, subst, arith}
use Rattle.std.specs.Prelude.{IfNone}
use Rattle.std.specs.List.{All, Contains}
use Rattle.std.proofs.lemmas.List.{length-map}
use Rattle.std.proofs.lemmas.List.Elements.{All-contains, All-weaker, Contains-append_left, Contains-append_right, Contains-get_or}
use Rattle.cyc_base.specs.declared.sig.Sig.{Sig}
use Rattle.cyc_base.specs.declared.trit.Trit.{Trit}
use Rattle.cyc_base.specs.declared.trit.Trit.TheVariants.{Zero, One, X}
use Rattle.cyc_base.specs.Values.{bit, bits, EachBelow}
use Rattle.cyc_base.proofs.OrderLemmas.{EachBelow-length}
use Rattle.netlist.specs.declared.parts.Parts.{Parts}
use Rattle.netlist.specs.Fixpoint.{fix, wire}
use Rattle.netlist.specs.Netlists.{count, gate_sig, signal, IsNetlist, is_marked, columns}
use Rattle.explanations.specs.declared.pins.Pin.{Pin}
use Rattle.explanations.specs.declared.pins.Pin.TheVariants.{Known, Free}
use Rattle.explanations.specs.Cycles.{last}
use Rattle.explanations.specs.Explained.{Explains, both}
use Rattle.explanations.specs.declared.explanation.Explanation.{Explanation}
use Rattle.explanations.proofs.LawLemmas.{held_stay_unknown}
use Rattle.explanations.proofs.CycleSideLemmas.{sides_hold_cycle}
use Rattle.refusals.specs.Acceptance.{AreDetermined, observed, gate_sigs}
use Rattle.refusals.specs.Refusals.{IsGate}
use Rattle.refusals.proofs.ObservedLemmas.{gate_among, member}
use Rattle.refusals.specs.declared.observe.Observe.{Observe}
use Rattle.refusals.specs.declared.observe.Observe.TheVariants as observe
use Rattle.care_rows.specs.Rows.{IsIn, IsSteadySignal, AreSteadyMarks}
use Rattle.care_rows.specs.declared.rows.Row.{Row}
use Rattle.care_rows.specs.declared.rows.WireValue.{WireValue}
use Rattle.assumptions.specs.Assumptions.{IsOpenRow}
use Rattle.assumptions.specs.Making.{IsRowOf, IsSteadySide, AreSteadySides, IsCycleRow, IsRowBy, pin_of}
use Rattle.assumptions.proofs.PinLemmas.{as_sides, in_row_of_sides, columns_below, in_row_of_columns}

-- an observed signal that is unknown isn't determined
unknown_is_open : (net : Parts) (v : List Bool) (signals : List Sig) (s : Sig) → Contains signals s → wire (fix net (bits v)) s ≡ X → ¬ AreDetermined net v signals
unknown_is_open net v signals s among unknown determined = All-contains (λ (t : Sig). wire (fix net (bits v)) t ≢ X) signals s determined among unknown

-- where all gates are observed, each gate is
gate_observed : (net : Parts) (g : ℕ) → g < length net.gates → Contains (observed net observe.All) (gate_sig net g)
gate_observed net g l = member (gate_sig net g) (gate_sigs net) (gate_among net g l)

-- ---- steady wires

column_steady : (net : Parts) (n : ℕ) → n < columns net → IsSteadySignal net (signal n)
column_steady net n l = record {
  within = omega arith;
  steady = λ gate m is up walk. absurd (apart gate (ap (λ (s : Sig). s.0) is));
}
  where
    apart : (gate : ℕ) → n ≡ columns net + gate → ⊥
    apart gate e = omega arith

columns_steady : (net : Parts) (values : List Trit) (row : Row) → length values ≤ columns net → IsRowOf (map pin_of values) row → All (λ e. IsSteadySignal net e.wire) row.values
columns_steady net values row few is =
    let wide = length-map values pin_of in
    All-weaker (λ (e : WireValue). (e.wire.0 < length (map pin_of values)) × (get_or (map pin_of values) e.wire.0 Free ≡ Known e.value)) (λ (e : WireValue). IsSteadySignal net e.wire)
    (λ e p. let l = p.0 in column_steady net e.wire.0 (omega arith)) row.values is.only

known_side_steady : (steady : List Bool) (s : ℕ) (b : Bool) (side : Pin) → IsSteadySide steady s side → side ≡ Known b → is_marked steady s ≡ true
known_side_steady steady s b side h e = subst (λ (p : Pin). IsSteadySide steady s p) e h

sides_steady : (net : Parts) (steady : List Bool) (sides : List Pin) (row : Row) → length sides ≡ count net → AreSteadyMarks net steady → AreSteadySides steady sides → IsRowOf sides row →
    All (λ e. IsSteadySignal net e.wire) row.values
sides_steady net steady sides row size marks are is =
    All-weaker (λ (e : WireValue). (e.wire.0 < length sides) × (get_or sides e.wire.0 Free ≡ Known e.value)) (λ (e : WireValue). IsSteadySignal net e.wire)
    (λ e p.
    let l = p.0 in
    let inside : e.wire.0 < count net = omega arith in
    record {
      within = inside;
      steady = (marks.each e.wire inside).0 (known_side_steady steady e.wire.0 e.value (get_or sides e.wire.0 Free) (are e.wire.0 p.0) p.1);
    }) row.values is.only

-- ---- what the row of an explanation is

module _ (net : Parts) (steady : List Bool) (v : List Bool) (goal : ℕ) (why : Explanation) (marks : AreSteadyMarks net steady) (width : length v ≡ columns net) (h : Explains net v goal why) where
  abbrev first_gate : ℕ
  first_gate = get_or why.cycle 0 0

  gate_within : first_gate < length net.gates
  gate_within = (h.cycle.unknown 0 0 h.cycle.some).gate

  -- the cycle is unknown, and so a gate is
  cycle_opens : (w : List Bool) → All (λ g. wire (fix net (bits w)) (gate_sig net g) ≡ X) why.cycle → ¬ AreDetermined net w (observed net observe.All)
  cycle_opens w unknown = unknown_is_open net w (observed net observe.All) (gate_sig net first_gate) (gate_observed net first_gate gate_within) (unknown 0 0 h.cycle.some)

  bits_wide : (w : List Bool) → length w ≡ columns net → length (bits w) ≡ length net.inputs + length net.latches
  bits_wide w e = length-map w bit ∙ e

  needs_wide : (w : List Bool) → length w ≡ columns net → length why.needs ≡ length w
  needs_wide w e = EachBelow-length why.needs (bits v) h.needs.of_vector ∙ length-map v bit ∙ width ∙ sym e

  sides_row : (row : Row) → AreSteadySides steady why.sides → IsRowOf why.sides row → IsOpenRow net observe.All row
  sides_row row are is = record {
    steady = sides_steady net steady why.sides row h.sides.size marks are is;
    opens = λ w wide inside.
        cycle_opens w (sides_hold_cycle net (bits w) why.cycle why.sides (bits_wide w wide) h.sides.enough (as_sides net w steady why.sides row are is inside));
  }

  needs_row : (row : Row) → IsRowOf (map pin_of why.needs) row → IsOpenRow net observe.All row
  needs_row row is = record {
    steady = (let few = needs_wide v width in columns_steady net why.needs row (omega arith) is);
    opens = λ w wide inside.
        cycle_opens w (held_stay_unknown net why.needs (bits w) why.cycle (bits_wide w wide) (columns_below net w why.needs row (needs_wide w wide) is inside) h.needs.enough);
  }

  cycle_row : (row : Row) → IsCycleRow steady why row → IsOpenRow net observe.All row
  cycle_row row (inl sides) = sides_row row sides.0 sides.1
  cycle_row row (inr needs) = needs_row row needs

  cycle_row_has : (row : Row) → IsCycleRow steady why row → IsIn net v row
  cycle_row_has row (inl sides) = in_row_of_sides net v why.sides row sides.1 h.sides.values
  cycle_row_has row (inr needs) = in_row_of_columns net v why.needs row needs h.needs.of_vector

  -- ---- the way too

  both_below : (needs also : List Trit) (xs : List Trit) → EachBelow needs xs → EachBelow also xs → EachBelow (both needs also) xs
  both_below [] [] xs n a = n
  both_below [] (y ∷ also) [] n a = absurd a
  both_below [] (y ∷ also) (x ∷ xs) n a = absurd n
  both_below (m ∷ needs) [] [] n a = absurd n
  both_below (m ∷ needs) [] (x ∷ xs) n a = absurd a
  both_below (m ∷ needs) (y ∷ also) [] n a = absurd n
  both_below (Zero ∷ needs) (y ∷ also) (x ∷ xs) n a = (n.0, both_below needs also xs n.1 a.1)
  both_below (One ∷ needs) (y ∷ also) (x ∷ xs) n a = (n.0, both_below needs also xs n.1 a.1)
  both_below (X ∷ needs) (y ∷ also) (x ∷ xs) n a = (a.0, both_below needs also xs n.1 a.1)

  all_below : EachBelow (both why.needs why.also) (bits v)
  all_below = both_below why.needs why.also (bits v) h.needs.of_vector h.also.of_vector

  all_wide : (w : List Bool) → length w ≡ columns net → length (both why.needs why.also) ≡ length w
  all_wide w e = EachBelow-length (both why.needs why.also) (bits v) all_below ∙ length-map v bit ∙ width ∙ sym e

  -- the goal is on the way or on the cycle
  last_among : (start : ℕ) (way : List ℕ) → Contains (start ∷ way) (last (start ∷ way))
  last_among start way = Contains-get_or (start ∷ way) (length (start ∷ way) - 1) 0 (omega arith)

  goal_among : Contains (why.cycle ++ why.way) goal
  goal_among = place (subst (λ (g : ℕ). Contains (h.leads.start ∷ why.way) g) h.leads.ends (last_among h.leads.start why.way))
    where
      place : Contains (h.leads.start ∷ why.way) goal → Contains (why.cycle ++ why.way) goal
      place (zero, l, is) = subst (λ (g : ℕ). Contains (why.cycle ++ why.way) g) is (Contains-append_left why.cycle why.way h.leads.start h.leads.on)
      place (suc k, l, is) = Contains-append_right why.cycle why.way goal (k, omega arith, is)

  way_row : (what : Observe) (row : Row) → Contains (observed net what) (gate_sig net goal) → IsRowOf (map pin_of (both why.needs why.also)) row → IsOpenRow net what row
  way_row what row among is = record {
    steady = (let few = all_wide v width in columns_steady net (both why.needs why.also) row (omega arith) is);
    opens = λ w wide inside.
        unknown_is_open net w (observed net what) (gate_sig net goal) among
        (All-contains (λ (g : ℕ). wire (fix net (bits w)) (gate_sig net g) ≡ X) (why.cycle ++ why.way) goal
        (held_stay_unknown net (both why.needs why.also) (bits w) (why.cycle ++ why.way) (bits_wide w wide)
        (columns_below net w (both why.needs why.also) row (all_wide w wide) is inside) h.also.enough) goal_among);
  }

  pub row_opens : (what : Observe) (row : Row) → Contains (observed net what) (gate_sig net goal) → IsRowBy what steady why row → IsOpenRow net what row
  row_opens observe.All row among is = cycle_row row is
  row_opens observe.Outputs row among is = way_row observe.Outputs row among is

  pub row_has_vector : (what : Observe) (row : Row) → IsRowBy what steady why row → IsIn net v row
  row_has_vector observe.All row is = cycle_row_has row is
  row_has_vector observe.Outputs row is = in_row_of_columns net v (both why.needs why.also) row is all_below

-- ---- sizes

pub sides_fit : (net : Parts) (v : List Bool) (goal : ℕ) (why : Explanation) → count net ≤ 4294967295 → Explains net v goal why → length why.sides ≤ 4294967295
sides_fit net v goal why fits h = let size = h.sides.size in omega arith

pub needs_fit : (net : Parts) (v : List Bool) (goal : ℕ) (why : Explanation) → count net ≤ 4294967295 → length v ≡ columns net → Explains net v goal why → length why.needs ≤ 4294967295
needs_fit net v goal why fits width h =
    let size = EachBelow-length why.needs (bits v) h.needs.of_vector ∙ length-map v bit in
    omega arith

zipped : (needs also : List Trit) → length (both needs also) ≤ length needs
zipped [] also = omega arith
zipped (n ∷ needs) [] = omega arith
zipped (n ∷ needs) (y ∷ also) = let rest = zipped needs also in omega arith

pub both_fit : (needs also : List Trit) → length needs ≤ 4294967295 → length (both needs also) ≤ 4294967295
both_fit needs also fits = let less = zipped needs also in omega arith

-- ---- an explanation that is found

gate_back : (net : Parts) (s : Sig) → IsGate net s → gate_sig net (s.0 - columns net) ≡ s
gate_back net s gate = let behind = gate.behind in ap signal (omega arith)

-- what an explanation of the gate of a signal is
module _ (net : Parts) (v : List Bool) (s : Sig) (found : Option Explanation) (why : Explanation) (some : IfSome found (Explains net v (s.0 - columns net))) (is : found ≡ Some why) where
  explains : Explains net v (s.0 - columns net) why
  explains = subst (λ (o : Option Explanation). IfSome o (Explains net v (s.0 - columns net))) is some

  pub found_opens : (what : Observe) (steady : List Bool) (row : Row) → AreSteadyMarks net steady → length v ≡ columns net → IsGate net s → Contains (observed net what) s → IsRowBy what steady why row → IsOpenRow net what row
  found_opens what steady row marks width gate among by =
      row_opens net steady v (s.0 - columns net) why marks width explains what row (subst (λ (t : Sig). Contains (observed net what) t) (sym (gate_back net s gate)) among) by

  pub found_has_vector : (what : Observe) (steady : List Bool) (row : Row) → AreSteadyMarks net steady → length v ≡ columns net → IsRowBy what steady why row → IsIn net v row
  found_has_vector what steady row marks width by = row_has_vector net steady v (s.0 - columns net) why marks width explains what row by

  pub found_sides_fit : IsNetlist net → length why.sides ≤ 4294967295
  found_sides_fit valid = sides_fit net v (s.0 - columns net) why valid.fits explains

  pub found_needs_fit : IsNetlist net → length v ≡ columns net → length why.needs ≤ 4294967295
  found_needs_fit valid width = needs_fit net v (s.0 - columns net) why valid.fits width explains

-- a gate that is unknown has an explanation
pub none_is_absurd : (net : Parts) (v : List Bool) (s : Sig) (found : Option Explanation) → found ≡ None → IfNone found (wire (fix net (bits v)) (gate_sig net (s.0 - columns net)) ≢ X) → IsGate net s →
    wire (fix net (bits v)) s ≡ X → ⊥
none_is_absurd net v s found is none gate unknown =
    subst (λ (o : Option Explanation). IfNone o (wire (fix net (bits v)) (gate_sig net (s.0 - columns net)) ≢ X)) is none
    (ap (wire (fix net (bits v))) (gate_back net s gate) ∙ unknown)
