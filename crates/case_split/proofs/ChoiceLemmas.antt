-- The selection among cases by a sum of products.
use Rattle.std.proofs.Common.{◌≡◌, ◌≢◌, ◌⊎◌, inl, inr, ℕ, zero, suc, ◌+◌, ◌-◌, ◌*◌, ◌/◌, ◌<◌, ◌≤◌, Bool, true, false, ◌||◌, List, [], ◌∷◌, ◌++◌, length, map, get_or, drop, take, All, Contains, refl, sym, ap, ◌∙◌, subst, arith}
use Rattle.std.specs.List.{list_any}
use Rattle.std.proofs.Math.Nat.{div-mul-le_self, lt-div-mul-add, mul-le-mul}
use Rattle.std.proofs.lemmas.Bool.{cases_eq, cases_lt}
use Rattle.std.proofs.lemmas.List.{get_or-append-add, get_or-drop, get_or-take, get_or_append_left, get_or_default, length-drop, length-take, length-take-le, length-append}
use Rattle.std.proofs.lemmas.List.Elements.{All-contains, All-drop, All-head, All-more, All-nil, All-tail, All-take, All-weaker}
use Rattle.cyc_base.specs.declared.limits.TheConstants.{MAX_PINS}
use Rattle.cyc_base.specs.declared.sig.Sig.{Sig}
use Rattle.cyc_base.specs.declared.trit.Trit.{Trit}
use Rattle.cyc_base.specs.declared.trit.Trit.TheVariants.{Zero, One, X}
use Rattle.cyc_base.specs.Values.{Below}
use Rattle.cyc_base.proofs.OrderLemmas.{Below-refl, Below-trans}
use Rattle.cover_logic.specs.Covers.{value_of_rows}
use Rattle.cover_logic.specs.Extensions.{exact, ext}
use Rattle.cover_logic.specs.Partial.{may_match, must_match}
use Rattle.cover_logic.specs.declared.row.Lit.{Lit}
use Rattle.cover_logic.specs.declared.row.Row.{Row}
use Rattle.cover_logic.proofs.TautologyLemmas.{sure, extension_sure, extension_never}
use Rattle.netlist.specs.declared.parts.Gate.{Gate}
use Rattle.netlist.specs.declared.parts.Parts.{Parts}
use Rattle.netlist.specs.Netlists.{count}
use Rattle.case_split.specs.declared.cases.Case.{Case}
use Rattle.case_split.specs.declared.cases.ColumnValue.{ColumnValue}
use Rattle.case_split.specs.declared.operands.Operand.{Operand}
use Rattle.case_split.specs.declared.operands.Operand.TheVariants.{Constant}
use Rattle.case_split.specs.declared.pins.Pin.TheVariants.{Column, Leaf}
use Rattle.case_split.specs.Cases.{IsUsable}
use Rattle.case_split.specs.Operands.{value_by, Agrees, IsWithin}
use Rattle.case_split.specs.Added.{AreNew}
use Rattle.case_split.specs.Cubes.{asked_of, literal_of, IsCube}
use Rattle.case_split.specs.Pins.{asked_at, column_pins, operand_on}
use Rattle.case_split.specs.Choices.{AreNarrow, IsGroupSize, HoldsBy, IsOutBy, IsOnlyBy, AreLeavesOf, IsSelected, IsCommon, IsChosenNext, IsChosenUpTo, IsChosen}
use Rattle.case_split.proofs.AddedLemmas.{agrees_before, more_none, more_trans, more_weaker}
use Rattle.case_split.proofs.PinLemmas.{column_there, row_must, row_stopped, row_zero, seen, values_seen}

-- ---- a cover of which one row may match

any_at : {A : Type 0} (p : A → Bool) (xs : List A) (i : ℕ) (d : A) → i < length xs → p (get_or xs i d) ≡ true → list_any p xs ≡ true
any_at p [] i d l h = absurd (omega arith)
any_at p (x ∷ xs) zero d l h = ap (λ b. b || list_any p xs) h
any_at p (x ∷ xs) (suc i) d l h = or_right (p x) (list_any p xs) (any_at p xs i d (omega arith) h)
  where
    or_right : (a b : Bool) → b ≡ true → (a || b) ≡ true
    or_right a b e = grind arith

none_any : {A : Type 0} (p : A → Bool) (xs : List A) → All (λ x. p x ≡ false) xs → list_any p xs ≡ false
none_any p [] h = refl
none_any p (x ∷ xs) h = both (p x) (list_any p xs) (All-head (λ y. p y ≡ false) x xs h) (none_any p xs (All-tail (λ y. p y ≡ false) x xs h))
  where
    both : (a b : Bool) → a ≡ false → b ≡ false → (a || b) ≡ false
    both a b e k = grind arith

abbrev pub no_row : Row
no_row = record { lits = [] }

-- it has the value of that row
pub one_row : (rows : List Row) (values : List Trit) (i : ℕ) (x : Trit) → i < length rows → (x ≡ One → must_match (get_or rows i no_row).lits values ≡ true) → (x ≡ Zero → may_match (get_or rows i no_row).lits values ≡ false) →
    ((j : ℕ) → j < length rows → j ≢ i → may_match (get_or rows j no_row).lits values ≡ false) → Below x (exact (value_of_rows true rows) values)
one_row rows values i X l must may others = tt
one_row rows values i One l must may others =
    extension_sure true rows values (λ h. refl) (sure rows values (any_at (λ row. must_match row.lits values) rows i no_row l (must refl)))
one_row rows values i Zero l must may others =
    extension_never true rows values (λ h. refl) (none_any (λ row. may_match row.lits values) rows (λ j d k.
    subst (λ (row : Row). may_match row.lits values ≡ false) (get_or_default rows j no_row d k)
    (elim (cases_eq j i) [
      | inl same ↦ subst (λ (n : ℕ). may_match (get_or rows n no_row).lits values ≡ false) (sym same) (may refl)
      | inr apart ↦ others j k apart
    ])))

-- ---- what is chosen among some cases

module _ (net : Parts) (cases : List Case) (leaves : List Operand) (before : Operand) (old new : List Gate) (chosen : Operand) (possible : AreLeavesOf cases leaves) (wide : length leaves ≡ length cases)
    (is : IsSelected net cases (leaves ++ before ∷ []) old new chosen) where
  abbrev all : List Operand
  all = leaves ++ before ∷ []

  length-all : length all ≡ length cases + 1
  length-all = length-append leaves (before ∷ []) ∙ ap (λ (n : ℕ). n + 1) wide

  leaf_at : (j : ℕ) (d : Operand) → j < length cases → get_or all j d ≡ get_or leaves j d
  leaf_at j d l = get_or_append_left leaves (before ∷ []) d j (omega arith)

  last_leaf : (d : Operand) → get_or all (length cases) d ≡ before
  last_leaf d = ap (λ (n : ℕ). get_or all n d) (let e : length cases ≡ length leaves + 0 = omega arith in e) ∙ get_or-append-add leaves (before ∷ []) 0 d

  module _ (f : Sig → Trit) where
    abbrev values : List Trit
    values = map (seen f all) is.pins

    abbrev first : ℕ → ℕ
    first j = get_or is.firsts j 0

    -- the pin of a case has the value of its leaf
    first_seen : (j : ℕ) (d : Operand) → j < length cases → seen f all (Leaf (first j)) ≡ value_by f (get_or leaves j d)
    first_seen j d l = ap (value_by f) (is.are_firsts.same j (Constant false) (omega (arith, length-all)) ∙ leaf_at j (Constant false) l ∙ get_or_default leaves j (Constant false) d (omega (arith, wide)))

    last_seen : seen f all (Leaf (length cases)) ≡ value_by f before
    last_seen = ap (value_by f) (last_leaf (Constant false))

    row_values : (j : ℕ) (c : Case) (match : List Lit → List Trit → Bool) → j < length cases → match (get_or is.cover.rows j no_row).lits values ≡ match (map (asked_at (get_or cases j c).cube.items (first j)) is.pins) values
    row_values j c match l = ap (λ (ls : List Lit). match ls values) (is.is.rows.each j c no_row l)

    last_values : (match : List Lit → List Trit → Bool) → match (get_or is.cover.rows (length cases) no_row).lits values ≡ match (map (asked_at [] (length cases)) is.pins) values
    last_values match = ap (λ (ls : List Lit). match ls values) (is.is.rows.last no_row)

    -- a case whose leaf is 0 has a row that doesn't match
    case_zero : (j : ℕ) (c : Case) (d : Operand) → j < length cases → value_by f (get_or leaves j d) ≡ Zero → may_match (get_or is.cover.rows j no_row).lits values ≡ false
    case_zero j c d l low =
        row_values j c may_match l
        ∙ row_zero f all (get_or cases j c).cube.items (first j) is.pins
        (All-head (Contains is.pins) (Leaf (first j)) (column_pins (get_or cases j c).cube.items) (is.are_pins.each j c l))
        (first_seen j d l ∙ low)

    -- and so has one that is out
    case_out : (j : ℕ) (c : Case) → j < length cases → IsOutBy f (get_or cases j c).cube.items → may_match (get_or is.cover.rows j no_row).lits values ≡ false
    case_out j c l out =
        let cube : List ColumnValue = (get_or cases j c).cube.items in
        elim (possible j c (Constant false) l) [
          | inl proper ↦
              row_values j c may_match l
              ∙ row_stopped f all cube (first j) is.pins out.literal
              (All-contains (Contains is.pins) (column_pins cube) (Column out.literal.column)
              (All-tail (Contains is.pins) (Leaf (first j)) (column_pins cube) (is.are_pins.each j c l)) (column_there cube out.literal out.among))
              (All-contains (λ literal. asked_of cube literal.column ≡ literal_of literal.value) cube out.literal proper out.among)
              out.contradicted
          | inr never ↦ case_zero j c (Constant false) l (ap (value_by f) never)
        ]

    shown : Agrees f (count net) new → (i : ℕ) (x : Trit) → i < length is.cover.rows → (x ≡ One → must_match (get_or is.cover.rows i no_row).lits values ≡ true) → (x ≡ Zero → may_match (get_or is.cover.rows i no_row).lits values ≡ false) →
        ((j : ℕ) → j < length is.cover.rows → j ≢ i → may_match (get_or is.cover.rows j no_row).lits values ≡ false) → Below x (value_by f chosen)
    shown agree i x l must may others =
        Below-trans x (ext is.cover (map (value_by f) (map (operand_on all) is.pins))) (value_by f chosen)
        (subst (λ (ts : List Trit). Below x (ext is.cover ts)) (sym (values_seen f all is.pins))
        (subst (λ (p : Bool). Below x (exact (value_of_rows p is.cover.rows) values)) (sym is.is.plane)
        (one_row is.cover.rows values i x l must may others)))
        (is.added.tells f agree)

    chosen_here : Agrees f (count net) new → (i : ℕ) (d : Operand) → i < length cases → IsOnlyBy f cases i → value_by f before ≡ Zero → Below (value_by f (get_or leaves i d)) (value_by f chosen)
    chosen_here agree i d l only zero_before = by cases refl
      where
        by : (cs : List Case) → cs ≡ cases → Below (value_by f (get_or leaves i d)) (value_by f chosen)
        by [] e = absurd (let n = ap length e in omega arith)
        by (c ∷ cs) e =
            let w = is.is.rows.width in
            shown agree i (value_by f (get_or leaves i d)) (omega arith)
            (λ one. row_values i c must_match l ∙ row_must f all (get_or cases i c).cube.items (first i) is.pins (only.here c) (first_seen i d l ∙ one))
            (λ low. case_zero i c d l low)
            (λ j k apart. elim (cases_lt j (length cases)) [
              | inl inside ↦ case_out j c inside (only.others j c inside apart)
              | inr past ↦
                  subst (λ (n : ℕ). may_match (get_or is.cover.rows n no_row).lits values ≡ false) (let last : length cases ≡ j = omega arith in last)
                  (last_values may_match ∙ row_zero f all [] (length cases) is.pins is.are_pins.last (last_seen ∙ zero_before))
            ])

    chosen_before : Agrees f (count net) new → All (λ case. IsOutBy f case.cube.items) cases → Below (value_by f before) (value_by f chosen)
    chosen_before agree out =
        let w = is.is.rows.width in
        shown agree (length cases) (value_by f before) (omega arith)
        (λ one. last_values must_match ∙ row_must f all [] (length cases) is.pins (All-nil (HoldsBy f)) (last_seen ∙ one))
        (λ low. last_values may_match ∙ row_zero f all [] (length cases) is.pins is.are_pins.last (last_seen ∙ low))
        (λ j k apart. others j (omega (arith, apart)))
      where
        others : (j : ℕ) → j < length cases → may_match (get_or is.cover.rows j no_row).lits values ≡ false
        others j l = by cases refl
          where
            by : (cs : List Case) → cs ≡ cases → may_match (get_or is.cover.rows j no_row).lits values ≡ false
            by [] e = absurd (let n = ap length e in omega arith)
            by (c ∷ cs) e = case_out j c l (out j c l)

  pub chosen_next : IsChosenNext net cases leaves before old new chosen
  chosen_next = record {
    here = λ f agree i d l only zero_before. chosen_here f agree i d l only zero_before;
    none = λ f agree out. chosen_before f agree out;
    more = is.added.more;
    are = is.added.are;
    within = is.added.within;
  }

-- ---- what the selection of some cases has to be given

pub columns_low : (bound : ℕ) (cases : List Case) → All (IsUsable bound) cases → All (λ case. All (λ literal. literal.column < bound) case.cube.items) cases
columns_low bound cases all = All-weaker (IsUsable bound) (λ (case : Case). All (λ literal. literal.column < bound) case.cube.items) (λ case usable. usable.cube) cases all

-- ---- all of them

pub common_chosen : (net : Parts) (cases : List Case) (leaves : List Operand) (gates : List Gate) (operand : Operand) → IsCommon leaves operand → length leaves ≡ length cases → All (IsWithin (count net + length gates)) leaves → AreNew net gates → IsChosen net cases leaves gates gates operand
common_chosen net cases leaves gates operand h wide within are = record {
  under = λ f agree i d l only. subst (λ (o : Operand). Below (value_by f o) (value_by f operand)) (sym (h.all i d (omega arith))) (Below-refl (value_by f operand));
  more = more_weaker gates gates 0 (length cases) (omega arith) (more_none gates);
  are = are;
  within = All-contains (IsWithin (count net + length gates)) leaves operand within h.among;
}

-- a part of the cases, from number n on
pub record IsPart (cases part : List Case) (n : ℕ) : Type 0 where
  pub inside : n + length part ≤ length cases
  pub at : (j : ℕ) (c : Case) → j < length part → get_or part j c ≡ get_or cases (n + j) c

only_in : (f : Sig → Trit) (cases part : List Case) (n i : ℕ) → IsPart cases part n → n ≤ i → i < n + length part → IsOnlyBy f cases i → IsOnlyBy f part (i - n)
only_in f cases part n i is l k only = record {
  here = λ c. subst (λ (x : Case). All (HoldsBy f) x.cube.items) (ap (λ (m : ℕ). get_or cases m c) (let e : i ≡ n + (i - n) = omega arith in e) ∙ sym (is.at (i - n) c (omega arith))) (only.here c);
  others = λ j c m apart. subst (λ (x : Case). IsOutBy f x.cube.items) (sym (is.at j c m)) (only.others (n + j) c (let h = is.inside in omega arith) (λ e. apart (omega (arith, e))));
}

all_out : (f : Sig → Trit) (cases part : List Case) (n i : ℕ) → IsPart cases part n → (i < n) ⊎ (n + length part ≤ i) → IsOnlyBy f cases i → All (λ case. IsOutBy f case.cube.items) part
all_out f cases part n i is apart only j c l =
    subst (λ (x : Case). IsOutBy f x.cube.items) (sym (is.at j c l))
    (only.others (n + j) c (let h = is.inside in omega arith) (elim apart [ inl low ↦ (λ e. absurd (omega (arith, e))) | inr high ↦ (λ e. absurd (omega (arith, e))) ]))

pub upto_next : (net : Parts) (cases part : List Case) (leaves some : List Operand) (n m : ℕ) (old mid new : List Gate) (before chosen : Operand) → IsPart cases part n → m ≡ n + length part → n < m → ((j : ℕ) (d : Operand) → j < length part → get_or some j d ≡ get_or leaves (n + j) d) →
    IsChosenUpTo net cases leaves n old mid before → IsChosenNext net part some before mid new chosen → IsChosenUpTo net cases leaves m old new chosen
upto_next net cases part leaves some n m old mid new before chosen is end less at h next = record {
  inside = (let i = is.inside in omega arith);
  here = λ f agree i d l only. elim (cases_lt i n) [
    | inl low ↦
        Below-trans (value_by f (get_or leaves i d)) (value_by f before) (value_by f chosen)
        (h.here f (agrees_before f (count net) mid new 1 next.more agree) i d low only)
        (next.none f agree (all_out f cases part n i is (inl low) only))
    | inr high ↦
        subst (λ (o : Operand). Below (value_by f o) (value_by f chosen)) (at (i - n) d (omega arith) ∙ ap (λ (k : ℕ). get_or leaves k d) (let e : n + (i - n) ≡ i = omega arith in e))
        (next.here f agree (i - n) d (omega arith) (only_in f cases part n i is high (omega arith) only)
        (h.later f (agrees_before f (count net) mid new 1 next.more agree) i high only))
  ];
  later = λ f agree i l only.
      subst (λ (x : Trit). Below x (value_by f chosen)) (h.later f (agrees_before f (count net) mid new 1 next.more agree) i (omega arith) only)
      (next.none f agree (all_out f cases part n i is (inr (omega arith)) only));
  more = more_weaker old new (n + 1) m (omega arith) (more_trans old mid new n 1 h.more next.more);
  are = next.are;
  within = next.within;
}

-- ---- parts of the cases

pub part_length : {A : Type 0} (xs : List A) (n e : ℕ) → n ≤ e → e ≤ length xs → length (take (e - n) (drop n xs)) ≡ e - n
part_length xs n e l m = length-take-le (e - n) (drop n xs) (let d = length-drop n xs in omega arith)

pub part_at : {A : Type 0} (xs : List A) (n e j : ℕ) (d : A) → j < e - n → get_or (take (e - n) (drop n xs)) j d ≡ get_or xs (n + j) d
part_at xs n e j d l = get_or-take (e - n) (drop n xs) j d l ∙ get_or-drop n xs j d

pub part_is : (cases : List Case) (n e : ℕ) → n ≤ e → e ≤ length cases → IsPart cases (take (e - n) (drop n cases)) n
part_is cases n e l m = record {
  inside = (let w = part_length cases n e l m in omega arith);
  at = λ j c k. part_at cases n e j c (let w = part_length cases n e l m in omega arith);
}

pub part_narrow : (cases : List Case) (n e size : ℕ) → IsGroupSize cases size → n ≤ e → e ≤ length cases → e - n ≤ size → AreNarrow (take (e - n) (drop n cases))
part_narrow cases n e size h l m few = record {
  most = h.most;
  each = All-take (λ (case : Case). length case.cube.items ≤ h.most) (e - n) (drop n cases) (All-drop (λ (case : Case). length case.cube.items ≤ h.most) n cases h.each);
  fits = (let w = ap (λ (k : ℕ). k * (h.most + 1)) (part_length cases n e l m) in let p = mul-le-mul few (let most = h.most in let same : most + 1 ≤ most + 1 = omega arith in same) in let f = h.fits in omega arith);
}

pub part_possible : (cases : List Case) (leaves : List Operand) (n e : ℕ) → AreLeavesOf cases leaves → n ≤ e → e ≤ length cases → AreLeavesOf (take (e - n) (drop n cases)) (take (e - n) (drop n leaves))
part_possible cases leaves n e h l m i c d k =
    let w = part_length cases n e l m in
    let inside : i < e - n = omega arith in
    elim (h (n + i) c d (omega arith)) [
      | inl cube ↦ inl (subst (λ (x : Case). IsCube x.cube.items) (sym (part_at cases n e i c inside)) cube)
      | inr low ↦ inr (part_at leaves n e i d inside ∙ low)
    ]

pub part_next : (net : Parts) (cases : List Case) (leaves : List Operand) (n e : ℕ) (old mid new : List Gate) (before chosen : Operand) → n < e → e ≤ length cases →
    IsChosenUpTo net cases leaves n old mid before → IsChosenNext net (take (e - n) (drop n cases)) (take (e - n) (drop n leaves)) before mid new chosen → IsChosenUpTo net cases leaves e old new chosen
part_next net cases leaves n e old mid new before chosen l m h next =
    let less : n ≤ e = omega arith in
    let w = part_length cases n e less m in
    upto_next net cases (take (e - n) (drop n cases)) leaves (take (e - n) (drop n leaves)) n e old mid new before chosen (part_is cases n e less m) (omega arith) l
    (λ j d k. part_at leaves n e j d (omega arith)) h next

-- ---- how many fit

pub widest_next : (cases : List Case) (i : ℕ) (d : Case) (most next : ℕ) → All (λ case. length case.cube.items ≤ most) (take i cases) → i < length cases → most ≤ next → length (get_or cases i d).cube.items ≤ next → All (λ case. length case.cube.items ≤ next) (take (i + 1) cases)
widest_next cases i d most next h l less here =
    All-more (λ (case : Case). length case.cube.items ≤ next) cases i d l
    (All-weaker (λ (case : Case). length case.cube.items ≤ most) (λ (case : Case). length case.cube.items ≤ next) (λ case k. omega arith) (take i cases) h) here

pub all_taken : {A : Type 0} (P : A → Type 0) (xs : List A) (i : ℕ) → length xs ≤ i → All P (take i xs) → All P xs
all_taken P xs i l h k d m =
    subst P (get_or-take i xs k d (omega arith)) (h k d (let t = length-take i xs in omega arith))

pub size_fits : (cases : List Case) (most size : ℕ) → All (λ case. length case.cube.items ≤ most) cases → size ≡ (MAX_PINS - 1) / (most + 1) → IsGroupSize cases size
size_fits cases most size h e = record {
  most = most;
  each = h;
  fits = (let f : size * (most + 1) ≤ MAX_PINS - 1 = subst (λ (n : ℕ). n * (most + 1) ≤ MAX_PINS - 1) (sym e) (div-mul-le_self (MAX_PINS - 1) (most + 1)) in omega arith);
}

pub size_some : (most size : ℕ) → most ≤ 1000 → size ≡ (MAX_PINS - 1) / (most + 1) → 1 ≤ size
size_some most size l e = by size e
  where
    by : (n : ℕ) → n ≡ (MAX_PINS - 1) / (most + 1) → 1 ≤ n
    by zero z =
        let large : MAX_PINS - 1 < (MAX_PINS - 1) / (most + 1) * (most + 1) + (most + 1) = lt-div-mul-add (omega arith) in
        let none : (MAX_PINS - 1) / (most + 1) * (most + 1) ≡ 0 * (most + 1) = ap (λ (k : ℕ). k * (most + 1)) (sym z) in
        let nothing : 0 * (most + 1) ≡ 0 = omega arith in
        absurd (omega arith)
    by (suc n) z = omega arith
