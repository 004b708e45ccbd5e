-- The row of the known ones among some pins, and what its vectors are.
use Rattle.std.proofs.Common.{◌≡◌, ◌≢◌, inl, inr, ℕ, zero, suc, ◌+◌, ◌<◌, Bool, true, false, List, [], ◌∷◌, ◌++◌, length, map, get_or, refl, ap, sym, ◌∙◌, subst, arith}
use Rattle.std.specs.List.{Contains}
use Rattle.std.proofs.lemmas.Bool.{cases_eq, cases_lt}
use Rattle.std.proofs.lemmas.List.{get_or_append_left, get_or_past, length-map}
use Rattle.std.proofs.lemmas.List.Elements.{All-contains, All-push, All-weaker, Contains-append_left, Contains-push}
use Rattle.cyc_base.specs.declared.trit.Trit.{Trit}
use Rattle.cyc_base.specs.declared.trit.Trit.TheVariants.{Zero, One, X}
use Rattle.cyc_base.specs.Values.{bit, bits, Below, EachBelow}
use Rattle.cyc_base.proofs.OrderLemmas.{Below-bit, bit-known, EachBelow-at, EachBelow-from_at, EachBelow-length}
use Rattle.netlist.specs.declared.parts.Parts.{Parts}
use Rattle.netlist.specs.Fixpoint.{fix, wire}
use Rattle.explanations.specs.declared.pins.Pin.{Pin}
use Rattle.explanations.specs.declared.pins.Pin.TheVariants.{Known, Open, Free}
use Rattle.explanations.specs.Pins.{MayBe, trit_of}
use Rattle.explanations.specs.Laws.{AreAsSides}
use Rattle.care_rows.specs.Rows.{IsIn}
use Rattle.care_rows.specs.declared.rows.Row.{Row}
use Rattle.care_rows.specs.declared.rows.WireValue.{WireValue}
use Rattle.assumptions.specs.Making.{wire_value, AreKnownPins, HasPushed, IsRowOf, IsSteadySide, AreSteadySides, pin_of}

-- ---- collecting them

pub known_none : (pins : List Pin) → AreKnownPins pins 0 []
known_none pins = record { all = λ s b l e. absurd (omega arith); only = λ k d l. absurd (omega arith) }

known_is_one : (c b : Bool) → Known c ≡ Known b → c ≡ b
known_is_one c b e = cc

pub known_more : (pins : List Pin) (n : ℕ) (values : List WireValue) (b : Bool) → get_or pins n Free ≡ Known b → AreKnownPins pins n values → AreKnownPins pins (n + 1) (values ++ wire_value n b ∷ [])
known_more pins n values b is h = record {
  all = λ s c l e.
      elim (cases_eq s n) [
        | inl same ↦
            let value : c ≡ b = known_is_one c b (sym e ∙ ap (λ m. get_or pins m Free) same ∙ is) in
            subst (λ (m : ℕ). Contains (values ++ wire_value n b ∷ []) (wire_value m c)) (sym same)
            (subst (λ (x : Bool). Contains (values ++ wire_value n b ∷ []) (wire_value n x)) (sym value) (Contains-push values (wire_value n b)))
        | inr apart ↦ Contains-append_left values (wire_value n b ∷ []) (wire_value s c) (h.all s c (omega arith) e)
      ];
  only =
      All-push (λ (e : WireValue). (e.wire.0 < n + 1) × (get_or pins e.wire.0 Free ≡ Known e.value)) values (wire_value n b)
      (All-weaker (λ (e : WireValue). (e.wire.0 < n) × (get_or pins e.wire.0 Free ≡ Known e.value)) (λ (e : WireValue). (e.wire.0 < n + 1) × (get_or pins e.wire.0 Free ≡ Known e.value))
      (λ e p. let l = p.0 in (omega arith, p.1)) values h.only)
      (omega arith, is);
}

pub known_same : (pins : List Pin) (n : ℕ) (values : List WireValue) → ((b : Bool) → get_or pins n Free ≢ Known b) → AreKnownPins pins n values → AreKnownPins pins (n + 1) values
known_same pins n values other h = record {
  all = λ s c l e.
      elim (cases_eq s n) [
        | inl same ↦ absurd (other c (ap (λ m. get_or pins m Free) (sym same) ∙ e))
        | inr apart ↦ h.all s c (omega arith) e
      ];
  only =
      All-weaker (λ (e : WireValue). (e.wire.0 < n) × (get_or pins e.wire.0 Free ≡ Known e.value)) (λ (e : WireValue). (e.wire.0 < n + 1) × (get_or pins e.wire.0 Free ≡ Known e.value))
      (λ e p. let l = p.0 in (omega arith, p.1)) values h.only;
}

pub known_next : (pins : List Pin) (n : ℕ) (pin : Pin) (old new : List WireValue) → get_or pins n Free ≡ pin → HasPushed n pin old new → AreKnownPins pins n old → AreKnownPins pins (n + 1) new
known_next pins n (Known b) old new is pushed h = subst (AreKnownPins pins (n + 1)) (sym pushed) (known_more pins n old b is h)
known_next pins n Open old new is pushed h = subst (AreKnownPins pins (n + 1)) (sym pushed) (known_same pins n old (λ b e. open_or_free (sym is ∙ e)) h)
  where
    open_or_free : {b : Bool} → Open ≢ Known b
    open_or_free e = cc
known_next pins n Free old new is pushed h = subst (AreKnownPins pins (n + 1)) (sym pushed) (known_same pins n old (λ b e. free_or_known (sym is ∙ e)) h)
  where
    free_or_known : {b : Bool} → Free ≢ Known b
    free_or_known e = cc

-- ---- the vectors of the row

-- a known pin is the value of its wire at each vector in the row
pub wire_in_row : (net : Parts) (v : List Bool) (pins : List Pin) (row : Row) (s : ℕ) (b : Bool) → IsRowOf pins row → IsIn net v row → s < length pins → get_or pins s Free ≡ Known b →
    get_or (fix net (bits v)) s X ≡ bit b
wire_in_row net v pins row s b is inside l e = All-contains (λ (e : WireValue). wire (fix net (bits v)) e.wire ≡ bit e.value) row.values (wire_value s b) inside (is.all s b l e)

-- signals that are as the pins say are in the row
pub row_has : (net : Parts) (v : List Bool) (pins : List Pin) (row : Row) → IsRowOf pins row → ((s : ℕ) (b : Bool) → get_or pins s Free ≡ Known b → get_or (fix net (bits v)) s X ≡ bit b) → IsIn net v row
row_has net v pins row is agree =
    All-weaker (λ (e : WireValue). (e.wire.0 < length pins) × (get_or pins e.wire.0 Free ≡ Known e.value)) (λ (e : WireValue). wire (fix net (bits v)) e.wire ≡ bit e.value)
    (λ e p. agree e.wire.0 e.value p.1) row.values is.only

-- ---- sides

side_may_be : (side : Pin) (value : Trit) → side ≢ Open → ((b : Bool) → side ≡ Known b → value ≡ bit b) → MayBe side value
side_may_be (Known b) value closed agree = agree b refl
side_may_be Open value closed agree = absurd (closed refl)
side_may_be Free value closed agree = tt

steady_side_closed : (steady : List Bool) (s : ℕ) (side : Pin) → IsSteadySide steady s side → side ≢ Open
steady_side_closed steady s side h e = subst (λ (p : Pin). IsSteadySide steady s p) e h

side_closed : (steady : List Bool) (sides : List Pin) (s : ℕ) → AreSteadySides steady sides → get_or sides s Free ≢ Open
side_closed steady sides s h =
    elim (cases_lt s (length sides)) [
      | inl l ↦ steady_side_closed steady s (get_or sides s Free) (h s l)
      | inr past ↦ λ e. free_is_not_open (sym (get_or_past sides s Free past) ∙ e)
    ]
  where
    free_is_not_open : Free ≢ Open
    free_is_not_open e = cc

-- at each vector in the row of the sides of a cycle, the signals are as these say
pub as_sides : (net : Parts) (v : List Bool) (steady : List Bool) (sides : List Pin) (row : Row) → AreSteadySides steady sides → IsRowOf sides row → IsIn net v row → AreAsSides (fix net (bits v)) sides
as_sides net v steady sides row closed is inside s =
    side_may_be (get_or sides s Free) (get_or (fix net (bits v)) s X) (side_closed steady sides s closed)
    (λ b e. wire_in_row net v sides row s b is inside (within s b e) e)
  where
    within : (s : ℕ) (b : Bool) → get_or sides s Free ≡ Known b → s < length sides
    within s b e = elim (cases_lt s (length sides)) [
      | inl l ↦ l
      | inr past ↦ absurd (free_is_unknown b (sym (get_or_past sides s Free past) ∙ e))
    ]
      where
        free_is_unknown : (b : Bool) → Free ≢ Known b
        free_is_unknown b e = cc

known_value : (side : Pin) (b : Bool) (value : Trit) → trit_of side ≡ value → side ≡ Known b → value ≡ bit b
known_value side b value is e = sym is ∙ ap trit_of e

known_is_not_free : (side : Pin) (b : Bool) → side ≡ Known b → side ≢ Free
known_is_not_free side b e f = cc

-- a vector at which they are so is in it
pub in_row_of_sides : (net : Parts) (v : List Bool) (sides : List Pin) (row : Row) → IsRowOf sides row →
    ((s : ℕ) → get_or sides s Free ≢ Free → trit_of (get_or sides s Free) ≡ get_or (fix net (bits v)) s X) → IsIn net v row
in_row_of_sides net v sides row is values =
    row_has net v sides row is (λ s b e. known_value (get_or sides s Free) b (get_or (fix net (bits v)) s X) (values s (known_is_not_free (get_or sides s Free) b e)) e)

-- ---- columns

pin_is : (value : Trit) (b : Bool) → pin_of value ≡ Known b → value ≡ bit b
pin_is Zero b e = ap bit (known_is_one false b e)
pin_is One b e = ap bit (known_is_one true b e)
pin_is X b e = absurd (free b e)
  where
    free : (b : Bool) → Free ≢ Known b
    free b e = cc

below_by_pin : (value other : Trit) → ((b : Bool) → pin_of value ≡ Known b → other ≡ bit b) → Below value other
below_by_pin Zero other agree = agree false refl
below_by_pin One other agree = agree true refl
below_by_pin X other agree = tt

pin_at : (columns : List Trit) (s : ℕ) → get_or (map pin_of columns) s Free ≡ pin_of (get_or columns s X)
pin_at [] s = refl
pin_at (x ∷ columns) zero = refl
pin_at (x ∷ columns) (suc s) = pin_at columns s

column_of_fix : (net : Parts) (v : List Bool) (s : ℕ) → s < length v → get_or (fix net (bits v)) s X ≡ get_or (bits v) s X
column_of_fix net v s l = grind (arith, length-map, get_or_append_left)

-- the columns have their values at each vector in their row
pub columns_below : (net : Parts) (v : List Bool) (columns : List Trit) (row : Row) → length columns ≡ length v → IsRowOf (map pin_of columns) row → IsIn net v row → EachBelow columns (bits v)
columns_below net v columns row width is inside =
    let wide = length-map columns pin_of in
    let long = length-map v bit in
    EachBelow-from_at columns (bits v) (omega arith)
    (λ s l.
    below_by_pin (get_or columns s X) (get_or (bits v) s X)
    (λ b e.
    sym (column_of_fix net v s (omega arith))
    ∙ wire_in_row net v (map pin_of columns) row s b is inside (omega arith) (pin_at columns s ∙ e)))

pub in_row_of_columns : (net : Parts) (v : List Bool) (columns : List Trit) (row : Row) → IsRowOf (map pin_of columns) row → EachBelow columns (bits v) → IsIn net v row
in_row_of_columns net v columns row is below =
    row_has net v (map pin_of columns) row is
    (λ s b e.
    let value : get_or columns s X ≡ bit b = pin_is (get_or columns s X) b (sym (pin_at columns s) ∙ e) in
    let wide = EachBelow-length columns (bits v) below in
    let long = length-map v bit in
    let known : s < length columns = within columns s b value in
    column_of_fix net v s (omega arith)
    ∙ Below-bit b (get_or (bits v) s X) (subst (λ (t : Trit). Below t (get_or (bits v) s X)) value (EachBelow-at columns (bits v) s below)))
  where
    within : (columns : List Trit) (s : ℕ) (b : Bool) → get_or columns s X ≡ bit b → s < length columns
    within columns s b e = elim (cases_lt s (length columns)) [
      | inl l ↦ l
      | inr past ↦ absurd (bit-known b (sym e ∙ get_or_past columns s X past))
    ]
