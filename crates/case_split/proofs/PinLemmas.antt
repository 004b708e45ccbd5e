-- The pins of a selection, and the rows over them.
use Rattle.std.proofs.Common.{◌≡◌, inl, inr, ℕ, zero, suc, ◌+◌, ◌*◌, ◌<◌, ◌≤◌, Bool, true, false, not, ◌&&◌, if◌then◌else◌, List, [], ◌∷◌, ◌++◌, length, map, get_or, take, All, Contains, None, refl, sym, ap, ◌∙◌, subst, arith}
use Rattle.std.specs.List.{range_with_len}
use Rattle.std.specs.List.Sorted.{IsPermutation}
use Rattle.std.proofs.lemmas.Bool.{cases_eq, cases_lt, eq-eqb, ne_eqb}
use Rattle.std.proofs.lemmas.List.{get_or_append_left, get_or_default, get_or-map, get_or_past, length-append, length-map, map-append, take_more}
use Rattle.std.proofs.lemmas.List.Elements.{All-append, All-cons, All-contains, All-head, All-map, All-nil, All-push, All-tail, All-weaker, Contains-append_left, Contains-get_or, Contains-push}
use Rattle.std.proofs.lemmas.List.FromFn.{get_or-range_with_len, length-range_with_len}
use Rattle.std.proofs.lemmas.List.Sorted.{All-permutation, Contains-permutation, length_permutation}
use Rattle.cyc_base.specs.declared.sig.Sig.{Sig}
use Rattle.cyc_base.specs.declared.trit.Trit.{Trit}
use Rattle.cyc_base.specs.declared.trit.Trit.TheVariants.{Zero, One}
use Rattle.cyc_base.specs.Values.{bit}
use Rattle.cover_logic.specs.Covers.{first_fault}
use Rattle.cover_logic.specs.Partial.{may_allow, may_match, must_allow, must_match}
use Rattle.cover_logic.specs.declared.row.Lit.{Lit}
use Rattle.cover_logic.specs.declared.row.Lit.TheVariants as lit
use Rattle.cover_logic.specs.declared.row.Row.{Row}
use Rattle.netlist.specs.Netlists.{signal}
use Rattle.case_split.specs.declared.cases.Case.{Case}
use Rattle.case_split.specs.declared.cases.ColumnValue.{ColumnValue}
use Rattle.case_split.specs.declared.operands.Operand.{Operand}
use Rattle.case_split.specs.declared.operands.Operand.TheVariants.{Constant}
use Rattle.case_split.specs.declared.pins.Pin.{Pin}
use Rattle.case_split.specs.declared.pins.Pin.TheVariants.{Column, Leaf}
use Rattle.case_split.specs.Choices.{AreNarrow, HoldsBy}
use Rattle.case_split.specs.Cubes.{asked_of, literal_of}
use Rattle.case_split.specs.Operands.{value_by, IsWithin}
use Rattle.case_split.specs.Pins.{asked_at, column_pins, operand_on, pins_for, AddsPins, AreFirstsUpTo, ArePinsAt, ArePinsOf, AreRows, AreRowsOf, IsPinWithin}
use Rattle.case_split.proofs.CofactorLemmas.{no_fault}
use Rattle.case_split.proofs.ListLemmas.{last_is}
use Rattle.case_split.proofs.CubeLemmas.{all_back, all_front, asked_must, may_not}

-- ---- the first places of leaves

pub firsts_next : (leaves : List Operand) (n first : ℕ) (firsts : List ℕ) → AreFirstsUpTo leaves n firsts → ((d : Operand) → get_or leaves first d ≡ get_or leaves n d) → AreFirstsUpTo leaves (n + 1) (firsts ++ first ∷ [])
firsts_next leaves n first firsts h is = record {
  width = length-append firsts (first ∷ []) ∙ ap (λ (k : ℕ). k + 1) h.width;
  same = λ i d l. elim (cases_lt i n) [
    | inl before ↦ ap (λ (k : ℕ). get_or leaves k d) (get_or_append_left firsts (first ∷ []) 0 i (let w = h.width in omega arith)) ∙ h.same i d before
    | inr after ↦
        let here : n ≡ i = omega (arith, after, l) in
        subst (λ (k : ℕ). get_or leaves (get_or (firsts ++ first ∷ []) k 0) d ≡ get_or leaves k d) here (ap (λ (k : ℕ). get_or leaves k d) (last_is firsts first n 0 h.width) ∙ is d)
  ];
}

-- ---- pins that are added

pub adds_new : (pin : Pin) (old : List Pin) → AddsPins (pin ∷ []) old (old ++ pin ∷ [])
adds_new pin old = record {
  keeps = λ p k. Contains-append_left old (pin ∷ []) p k;
  each = All-cons (Contains (old ++ pin ∷ [])) pin [] (Contains-push old pin) (All-nil (Contains (old ++ pin ∷ [])));
  within = λ bound h all. All-append (IsPinWithin bound) old (pin ∷ []) h all;
  few = (let e = length-append old (pin ∷ []) in omega arith);
}

pub adds_both : (pin : Pin) (more old mid new : List Pin) → AddsPins (pin ∷ []) old mid → AddsPins more mid new → AddsPins (pin ∷ more) old new
adds_both pin more old mid new first second = record {
  keeps = λ p k. second.keeps p (first.keeps p k);
  each = All-cons (Contains new) pin more (second.keeps pin (All-head (Contains mid) pin [] first.each)) second.each;
  within = λ bound h all.
      second.within bound
      (first.within bound h (All-cons (IsPinWithin bound) pin [] (All-head (IsPinWithin bound) pin more all) (All-nil (IsPinWithin bound))))
      (All-tail (IsPinWithin bound) pin more all);
  few = (let a = first.few in let b = second.few in omega arith);
}

adds_last : (more : List Pin) (pin : Pin) (old mid new : List Pin) → AddsPins more old mid → AddsPins (pin ∷ []) mid new → AddsPins (more ++ pin ∷ []) old new
adds_last more pin old mid new first second = record {
  keeps = λ p k. second.keeps p (first.keeps p k);
  each = All-append (Contains new) more (pin ∷ []) (All-weaker (Contains mid) (Contains new) (λ p. second.keeps p) more first.each) second.each;
  within = λ bound h all.
      second.within bound (first.within bound h (all_front (IsPinWithin bound) more (pin ∷ []) all))
      (All-cons (IsPinWithin bound) pin [] (all_back (IsPinWithin bound) more pin all) (All-nil (IsPinWithin bound)));
  few = (let e = length-append more (pin ∷ []) in let a = first.few in let b = second.few in omega arith);
}

abbrev column_pin : ColumnValue → Pin
column_pin literal = Column literal.column

pub columns_next : (cube : List ColumnValue) (i : ℕ) (d : ColumnValue) (old mid new : List Pin) → AddsPins (column_pins (take i cube)) old mid → i < length cube → AddsPins (Column (get_or cube i d).column ∷ []) mid new → AddsPins (column_pins (take (i + 1) cube)) old new
columns_next cube i d old mid new h l is =
    let x = get_or cube i d in
    subst (λ (ps : List Pin). AddsPins ps old new)
    (sym (ap column_pins (take_more cube i d l) ∙ map-append column_pin (take i cube) (x ∷ [])))
    (adds_last (column_pins (take i cube)) (Column x.column) old mid new h is)

-- ---- pins for cases

module _ (cases : List Case) (firsts : List ℕ) where
  abbrev HasPins : List Pin → ℕ → Type 0
  HasPins pins place = (d : Case) → All (Contains pins) (pins_for (get_or cases place d) (get_or firsts place 0))

  pub at_none : ArePinsAt cases firsts [] []
  at_none = record {
    each = All-nil (λ place. (d : Case) → All (Contains []) (pins_for (get_or cases place d) (get_or firsts place 0)));
    within = λ bound h. All-nil (IsPinWithin bound);
    few = λ most h. omega arith;
  }

  pub at_next : (order : List ℕ) (k place : ℕ) (case : Case) (old new : List Pin) → ArePinsAt cases firsts (take k order) old → k < length order → get_or order k 0 ≡ place → place < length cases → case ≡ get_or cases place case → AddsPins (pins_for case (get_or firsts place 0)) old new →
      ArePinsAt cases firsts (take (k + 1) order) new
  at_next order k place case old new h l at inside is adds =
      subst (λ (places : List ℕ). ArePinsAt cases firsts places new) (sym (take_more order k 0 l))
      (record {
        each = All-push (HasPins new) (take k order) (get_or order k 0)
            (All-weaker (HasPins old) (HasPins new) (λ p has d. All-weaker (Contains old) (Contains new) (λ pin. adds.keeps pin) (pins_for (get_or cases p d) (get_or firsts p 0)) (has d)) (take k order) h.each)
            (subst (HasPins new) (sym at) (λ d. subst (λ (c : Case). All (Contains new) (pins_for c (get_or firsts place 0))) (is ∙ get_or_default cases place case d inside) adds.each));
        within = λ bound all.
            adds.within bound (h.within bound all)
            (All-cons (IsPinWithin bound) (Leaf (get_or firsts place 0)) (column_pins case.cube.items) tt
            (All-map (IsPinWithin bound) column_pin case.cube.items (subst (λ (c : Case). All (λ (literal : ColumnValue). literal.column < bound) c.cube.items) (sym is) (all place case inside))));
        few = λ most all.
            let a = h.few most all in
            let b : length case.cube.items ≤ most = subst (λ (c : Case). length c.cube.items ≤ most) (sym is) (all place case inside) in
            let e : length (take k order ++ get_or order k 0 ∷ []) * (most + 1) ≡ length (take k order) * (most + 1) + (most + 1) = ap (λ (n : ℕ). n * (most + 1)) (length-append (take k order) (get_or order k 0 ∷ [])) ∙ one_more (length (take k order)) (most + 1) in
            let g = length-map case.cube.items column_pin in
            let f = adds.few in
            omega arith;
      })
    where
      one_more : (n m : ℕ) → (n + 1) * m ≡ n * m + m
      one_more n m = omega arith

  pub at_all : (order : List ℕ) (pins new : List Pin) → IsPermutation (range_with_len 0 (length cases)) order → ArePinsAt cases firsts order pins → AddsPins (Leaf (length cases) ∷ []) pins new → ArePinsOf cases firsts new
  at_all order pins new permuted h adds = record {
    each = λ i d l. All-weaker (Contains pins) (Contains new) (λ pin. adds.keeps pin) (pins_for (get_or cases i d) (get_or firsts i 0)) (All-contains (HasPins pins) order i h.each (there i l) d);
    last = All-head (Contains new) (Leaf (length cases)) [] adds.each;
    within = λ bound all. adds.within bound (h.within bound all) (All-cons (IsPinWithin bound) (Leaf (length cases)) [] tt (All-nil (IsPinWithin bound)));
    few = λ most all.
        let a = h.few most all in
        let b = adds.few in
        let e : length order * (most + 1) ≡ length cases * (most + 1) = ap (λ (n : ℕ). n * (most + 1)) (length_permutation (range_with_len 0 (length cases)) order permuted ∙ length-range_with_len 0 (length cases)) in
        omega arith;
  }
    where
      there : (i : ℕ) → i < length cases → Contains order i
      there i l =
          Contains-permutation (range_with_len 0 (length cases)) order i permuted
          (subst (Contains (range_with_len 0 (length cases))) (let e : 0 + i ≡ i = omega arith in get_or-range_with_len 0 (length cases) i 0 l ∙ e)
          (Contains-get_or (range_with_len 0 (length cases)) i 0 (let w = length-range_with_len 0 (length cases) in omega arith)))

pub places_within : (count : ℕ) (order : List ℕ) → IsPermutation (range_with_len 0 count) order → All (λ place. place < count) order
places_within count order permuted =
    All-permutation (λ (place : ℕ). place < count) (range_with_len 0 count) order permuted
    (λ i d l. let w = length-range_with_len 0 count in let inside : i < count = omega arith in subst (λ (n : ℕ). n < count) (sym (get_or-range_with_len 0 count i d inside)) (omega arith))

-- ---- what is on pins

pub operands_within : (bound more : ℕ) (cases : List Case) (firsts : List ℕ) (pins : List Pin) (leaves : List Operand) → ArePinsOf cases firsts pins → All (λ case. All (λ literal. literal.column < bound) case.cube.items) cases → All (IsWithin (bound + more)) leaves →
    All (IsWithin (bound + more)) (map (operand_on leaves) pins)
operands_within bound more cases firsts pins leaves are low within =
    All-map (IsWithin (bound + more)) (operand_on leaves) pins (All-weaker (IsPinWithin bound) (λ (pin : Pin). IsWithin (bound + more) (operand_on leaves pin)) each pins (are.within bound low))
  where
    leaf : (place : ℕ) → IsWithin (bound + more) (get_or leaves place (Constant false))
    leaf place = elim (cases_lt place (length leaves)) [
      | inl inside ↦ within place (Constant false) inside
      | inr past ↦ subst (IsWithin (bound + more)) (sym (get_or_past leaves place (Constant false) past)) tt
    ]

    each : (pin : Pin) → IsPinWithin bound pin → IsWithin (bound + more) (operand_on leaves pin)
    each (Column column) h = omega arith
    each (Leaf place) h = leaf place

-- ---- rows

abbrev row_asks : List Case → List ℕ → List Pin → ℕ → Case → List Lit
row_asks cases firsts pins i c = map (asked_at (get_or cases i c).cube.items (get_or firsts i 0)) pins

pub rows_next : (cases : List Case) (firsts : List ℕ) (pins : List Pin) (n : ℕ) (case : Case) (rows : List Row) (row : Row) → AreRowsOf cases firsts pins n rows → n < length cases → case ≡ get_or cases n case → row.lits ≡ map (asked_at case.cube.items (get_or firsts n 0)) pins →
    AreRowsOf cases firsts pins (n + 1) (rows ++ row ∷ [])
rows_next cases firsts pins n case rows row h inside is asks = record {
  inside = omega arith;
  width = length-append rows (row ∷ []) ∙ ap (λ (k : ℕ). k + 1) h.width;
  each = λ i c d l. elim (cases_lt i n) [
    | inl less ↦ ap (λ (r : Row). r.lits) (get_or_append_left rows (row ∷ []) d i (let w = h.width in omega arith)) ∙ h.each i c d less
    | inr most ↦
        let last : i ≡ n = omega (arith, most, l) in
        subst (λ (k : ℕ). (get_or (rows ++ row ∷ []) k d).lits ≡ row_asks cases firsts pins k c) (sym last)
        (ap (λ (r : Row). r.lits) (last_is rows row n d h.width) ∙ asks ∙ ap (λ (x : Case). map (asked_at x.cube.items (get_or firsts n 0)) pins) (is ∙ get_or_default cases n case c inside))
  ];
}

pub rows_all : (cases : List Case) (firsts : List ℕ) (pins : List Pin) (rows : List Row) (row : Row) → AreRowsOf cases firsts pins (length cases) rows → row.lits ≡ map (asked_at [] (length cases)) pins → AreRows cases firsts pins (rows ++ row ∷ [])
rows_all cases firsts pins rows row h asks = record {
  width = length-append rows (row ∷ []) ∙ ap (λ (k : ℕ). k + 1) h.width;
  each = λ i c d l. ap (λ (r : Row). r.lits) (get_or_append_left rows (row ∷ []) d i (let w = h.width in omega arith)) ∙ h.each i c d l;
  last = λ d. ap (λ (r : Row). r.lits) (last_is rows row (length cases) d h.width) ∙ asks;
}

pub rows_fit : (cases : List Case) (firsts : List ℕ) (pins : List Pin) (rows : List Row) → ArePinsOf cases firsts pins → AreNarrow cases → AreRows cases firsts pins rows → first_fault (length pins) rows ≡ None
rows_fit cases firsts pins rows are narrow h =
    no_fault (length pins) rows (let few = are.few narrow.most narrow.each in let fits = narrow.fits in omega arith) (λ i d l. elim (cases_lt i (length cases)) [
      | inl inside ↦ case_wide cases refl i d inside
      | inr past ↦
          let w = h.width in
          let last : i ≡ length cases = omega (arith, past, l, w) in
          subst (λ (k : ℕ). length (get_or rows k d).lits ≡ length pins) (sym last) (ap length (h.last d) ∙ length-map pins (asked_at [] (length cases)))
    ])
  where
    case_wide : (cs : List Case) → cs ≡ cases → (i : ℕ) (d : Row) → i < length cases → length (get_or rows i d).lits ≡ length pins
    case_wide [] e i d l = absurd (let n = ap length e in omega arith)
    case_wide (c ∷ cs) e i d l = ap length (h.each i c d l) ∙ length-map pins (asked_at (get_or cases i c).cube.items (get_or firsts i 0))

-- ---- matches of rows

and_both : (a b : Bool) → a ≡ true → b ≡ true → (a && b) ≡ true
and_both a b h k = grind arith

and_left : (a b : Bool) → a ≡ false → (a && b) ≡ false
and_left a b h = grind arith

and_right : (a b : Bool) → b ≡ false → (a && b) ≡ false
and_right a b h = grind arith

module _ (f : Sig → Trit) (leaves : List Operand) where
  abbrev pub seen : Pin → Trit
  seen pin = value_by f (operand_on leaves pin)

  must_at : (cube : List ColumnValue) (leaf : ℕ) (pin : Pin) → All (HoldsBy f) cube → seen (Leaf leaf) ≡ One → must_allow (asked_at cube leaf pin) (seen pin) ≡ true
  must_at cube leaf (Column column) holds one = asked_must (λ c. f (signal c)) cube column holds
  must_at cube leaf (Leaf place) holds one = elim (cases_eq place leaf) [
    | inl same ↦
        ap (λ (t : Bool). must_allow (if t then lit.One else lit.Any) (seen (Leaf place))) (eq-eqb place leaf same)
        ∙ ap (must_allow lit.One) (ap (λ (n : ℕ). seen (Leaf n)) same ∙ one)
    | inr apart ↦ ap (λ (t : Bool). must_allow (if t then lit.One else lit.Any) (seen (Leaf place))) (ne_eqb place leaf apart)
  ]

  -- the row of a cube that holds and of a leaf that is 1
  pub row_must : (cube : List ColumnValue) (leaf : ℕ) (pins : List Pin) → All (HoldsBy f) cube → seen (Leaf leaf) ≡ One → must_match (map (asked_at cube leaf) pins) (map seen pins) ≡ true
  row_must cube leaf [] holds one = refl
  row_must cube leaf (p ∷ pins) holds one =
      and_both (must_allow (asked_at cube leaf p) (seen p)) (must_match (map (asked_at cube leaf) pins) (map seen pins)) (must_at cube leaf p holds one) (row_must cube leaf pins holds one)

  -- one pin that contradicts a row
  row_out : (cube : List ColumnValue) (leaf : ℕ) (pins : List Pin) (pin : Pin) → Contains pins pin → may_allow (asked_at cube leaf pin) (seen pin) ≡ false → may_match (map (asked_at cube leaf) pins) (map seen pins) ≡ false
  row_out cube leaf [] pin k h = (let l = k.1 in absurd (omega arith))
  row_out cube leaf (p ∷ pins) pin (zero, l, e) h =
      and_left (may_allow (asked_at cube leaf p) (seen p)) (may_match (map (asked_at cube leaf) pins) (map seen pins))
      (ap (λ (q : Pin). may_allow (asked_at cube leaf q) (seen q)) e ∙ h)
  row_out cube leaf (p ∷ pins) pin (suc k, l, e) h =
      and_right (may_allow (asked_at cube leaf p) (seen p)) (may_match (map (asked_at cube leaf) pins) (map seen pins))
      (row_out cube leaf pins pin (k, (let m : k < length pins = omega arith in m), e) h)

  -- a column that contradicts what the cube asks of it
  pub row_stopped : (cube : List ColumnValue) (leaf : ℕ) (pins : List Pin) (literal : ColumnValue) → Contains pins (Column literal.column) → asked_of cube literal.column ≡ literal_of literal.value → f (signal literal.column) ≡ bit (not literal.value) →
      may_match (map (asked_at cube leaf) pins) (map seen pins) ≡ false
  row_stopped cube leaf pins literal there asked out =
      row_out cube leaf pins (Column literal.column) there
      (ap (λ (x : Lit). may_allow x (f (signal literal.column))) asked ∙ ap (may_allow (literal_of literal.value)) out ∙ may_not literal.value)

  -- a leaf that is 0
  pub row_zero : (cube : List ColumnValue) (leaf : ℕ) (pins : List Pin) → Contains pins (Leaf leaf) → seen (Leaf leaf) ≡ Zero → may_match (map (asked_at cube leaf) pins) (map seen pins) ≡ false
  row_zero cube leaf pins there low =
      row_out cube leaf pins (Leaf leaf) there
      (ap (λ (t : Bool). may_allow (if t then lit.One else lit.Any) (seen (Leaf leaf))) (eq-eqb leaf leaf refl) ∙ ap (may_allow lit.One) low)

pub column_there : (cube : List ColumnValue) (literal : ColumnValue) → Contains cube literal → Contains (column_pins cube) (Column literal.column)
column_there cube literal among =
    (among.0, (let w = length-map cube column_pin in let l = among.1 in omega arith), get_or-map column_pin cube among.0 literal (Column literal.column) among.1 ∙ ap column_pin among.2)

pub values_seen : (f : Sig → Trit) (leaves : List Operand) (pins : List Pin) → map (value_by f) (map (operand_on leaves) pins) ≡ map (seen f leaves) pins
values_seen f leaves [] = refl
values_seen f leaves (p ∷ pins) = ap (λ (ts : List Trit). seen f leaves p ∷ ts) (values_seen f leaves pins)
