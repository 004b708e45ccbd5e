-- Cases that are shown to be cases on care.
use Rattle.std.proofs.Common.{◌≡◌, ◌≢◌, ◌⊎◌, inl, inr, ℕ, suc, ◌+◌, ◌<◌, Bool, true, false, not, List, [], ◌∷◌, ◌++◌, length, map, take, get_or, refl, sym, ap, subst, ◌∙◌, arith}
use Rattle.std.specs.Prelude.{Any}
use Rattle.std.specs.List.{All}
use Rattle.std.proofs.lemmas.Bool.{cases_lt}
use Rattle.std.proofs.lemmas.List.{get_or_default, get_or-map, get_or-take, length-map, length-take-le, take_more}
use Rattle.std.proofs.lemmas.List.Elements.{All-append, All-cons, All-map, All-nil, All-push}
use Rattle.cyc_base.specs.declared.trit.Trit.TheVariants.{X}
use Rattle.cyc_base.specs.Values.{bit, bits}
use Rattle.netlist.specs.Netlists.{columns}
use Rattle.netlist.specs.declared.parts.Parts.{Parts}
use Rattle.loops.specs.Sweeps.{first_gate}
use Rattle.care_sets.specs.Care.{CareSet, IsCareVector}
use Rattle.case_split.specs.declared.cases.Case.{Case}
use Rattle.case_split.specs.declared.cases.ColumnValue.{ColumnValue}
use Rattle.case_split.specs.Cases.{AreOfColumns, Holds, IsContradicted, IsInOneCase, IsRuledOut, IsUsable}
use Rattle.clause_pairs.specs.declared.cubes.Cube.{Cube}
use Rattle.clause_pairs.specs.declared.pairs.Fixed.{Fixed}
use Rattle.clause_pairs.specs.Apart.{HasFixed, IsCubeOf, IsInCube}
use Rattle.clause_pairs.specs.Cubes.{AskedCare, AsksCare, LeaveNoneOut}
use Rattle.clause_pairs.specs.Cubes as cubes
use Rattle.case_search.specs.Cases.{cube_of, fixed_of, opposite_of, AreApart, AreShown, ForcesKnown, HasAll, HaveNone, IsApartFromEach, ToldBy}

-- the vector has a value
abbrev Has : List Bool → ColumnValue → Type 0
Has v e = get_or v e.column false ≡ e.value

-- ---- what is asked

fixed-all : (v : List Bool) (values : List ColumnValue) → HasAll v values → IsInCube (map fixed_of values) v
fixed-all v values h = All-map (HasFixed v) fixed_of values (λ k d less. h k d less)

all-fixed : (v : List Bool) (values : List ColumnValue) → IsInCube (map fixed_of values) v → HasAll v values
all-fixed v values h = λ k d less. subst (HasFixed v) (get_or-map fixed_of values k d (fixed_of d) less) (h k (fixed_of d) (omega (arith, less, length-map values fixed_of)))

pub have-none : (q : AskedCare) (values : List ColumnValue) (cube : List Fixed) → cube ≡ map fixed_of values → ((net : Parts) (care : CareSet) → AsksCare net care q → cubes.IsRuledOut net care cube) →
    ToldBy q (λ net care. HaveNone net care values)
have-none q values cube is out = λ net care asks v counts has. out net care asks v counts (subst (λ (c : List Fixed). IsInCube c v) (sym is) (fixed-all v values has))

pub apart-both : (q : AskedCare) (cube other both : List ColumnValue) → both ≡ cube ++ other → ToldBy q (λ net care. HaveNone net care both) → ToldBy q (λ net care. AreApart net care cube other)
apart-both q cube other both is none = λ net care asks v counts here there. none net care asks v counts (subst (HasAll v) (sym is) (All-append (Has v) cube other here there))

same-or-other : (a b : Bool) → (a ≡ b) ⊎ (a ≡ not b)
same-or-other true true = inl refl
same-or-other true false = inr refl
same-or-other false true = inr refl
same-or-other false false = inl refl

pub forced-value : (q : AskedCare) (cube contrary : List ColumnValue) (value : ColumnValue) → contrary ≡ cube ++ opposite_of value ∷ [] → ToldBy q (λ net care. HaveNone net care contrary) →
    ToldBy q (λ net care. ForcesKnown net care cube (value ∷ []))
forced-value q cube contrary value is none = λ net care asks v counts here.
    elim (same-or-other (get_or v value.column false) value.value) [
      | inl e ↦ All-cons (Has v) value [] e (All-nil (Has v))
      | inr e ↦ absurd (none net care asks v counts (subst (HasAll v) (sym is) (All-push (Has v) cube (opposite_of value) here e)))
    ]

-- ---- loops

pub told-at : (q p : AskedCare) (P : Parts → CareSet → Type 0) → p ≡ q → ToldBy p P → ToldBy q P
told-at q p P same told = subst (λ (r : AskedCare). ToldBy r P) same told

pub apart-more : (q p : AskedCare) (case : Case) (others : List Case) (place : ℕ) (item : Case) (cube there : List ColumnValue) → p ≡ q → place < length others → item ≡ get_or others place item → cube ≡ case.cube.items → there ≡ item.cube.items →
    ToldBy q (IsApartFromEach case (take place others)) → ToldBy p (λ net care. AreApart net care cube there) → ToldBy q (IsApartFromEach case (take (place + 1) others))
apart-more q p case others place item cube there same inside is cube_is there_is before last = λ net care asks.
    let P = λ (other : Case). AreApart net care case.cube.items other.cube.items in
    let here = subst (λ (values : List ColumnValue). AreApart net care values item.cube.items) cube_is (subst (AreApart net care cube) there_is (told-at q p (λ net care. AreApart net care cube there) same last net care asks)) in
    subst (All P) (sym (take_more others place item inside)) (All-push P (take place others) (get_or others place item) (before net care asks) (subst P is here))

pub forced-more : (q p : AskedCare) (cube own values : List ColumnValue) (place : ℕ) (item : ColumnValue) → p ≡ q → place < length values → item ≡ get_or values place item → own ≡ cube → ToldBy q (λ net care. ForcesKnown net care cube (take place values)) →
    ToldBy p (λ net care. ForcesKnown net care own (item ∷ [])) → ToldBy q (λ net care. ForcesKnown net care cube (take (place + 1) values))
forced-more q p cube own values place item same inside is own_is before last = λ net care asks v counts here.
    let at = subst (λ (c : List ColumnValue). ForcesKnown net care c (item ∷ [])) own_is (told-at q p (λ net care. ForcesKnown net care own (item ∷ [])) same last net care asks) in
    subst (HasAll v) (sym (take_more values place item inside))
    (All-push (Has v) (take place values) (get_or values place item) (before net care asks v counts here) (subst (Has v) is (at v counts here 0 item (omega arith))))

pub shown-none : (q : AskedCare) (cases : List Case) → ToldBy q (AreShown cases 0)
shown-none q cases = λ net care asks. record { apart = λ i j d low less. absurd (omega (arith, less)); forced = λ i d less. absurd (omega (arith, less)) }

pub shown-more : (q p : AskedCare) (cases before : List Case) (k : ℕ) (case : Case) → p ≡ q → k < length cases → before ≡ take k cases → ((d : Case) → get_or cases k d ≡ case) → ToldBy q (AreShown cases k) →
    ToldBy p (IsApartFromEach case before) → ToldBy p (λ net care. ForcesKnown net care case.cube.items case.known.items) → ToldBy q (AreShown cases (k + 1))
shown-more q p cases before k case same inside is at first apart forced = λ net care asks.
    let asks_too = subst (AsksCare net care) (sym same) asks in
    record {
      apart = λ i j d low less. elim (cases_lt i k) [
        | inl early ↦ (first net care asks).apart i j d low early
        | inr late ↦
            let last : i ≡ k = omega (arith, less, late) in
            subst (λ (n : ℕ). AreApart net care (get_or cases n d).cube.items (get_or cases j d).cube.items) (sym last)
            (subst (λ (c : Case). AreApart net care c.cube.items (get_or cases j d).cube.items) (sym (at d))
            (subst (λ (c : Case). AreApart net care case.cube.items c.cube.items) (get_or-take k cases j d (omega (arith, low, last)))
            (subst (λ (cs : List Case). All (λ c. AreApart net care case.cube.items c.cube.items) cs) is (apart net care asks_too) j d (omega (arith, low, last, length-take-le k cases (omega (arith, inside)))))))
      ];
      forced = λ i d less. elim (cases_lt i k) [
        | inl early ↦ (first net care asks).forced i d early
        | inr late ↦
            let last : i ≡ k = omega (arith, less, late) in
            subst (λ (n : ℕ). ForcesKnown net care (get_or cases n d).cube.items (get_or cases n d).known.items) (sym last)
            (subst (λ (c : Case). ForcesKnown net care c.cube.items c.known.items) (sym (at d)) (forced net care asks_too))
      ];
    }

map-push : (cases : List Case) (case : Case) → map cube_of (cases ++ case ∷ []) ≡ map cube_of cases ++ cube_of case ∷ []
map-push [] case = refl
map-push (c ∷ cases) case = ap (λ (cs : List Cube). cube_of c ∷ cs) (map-push cases case)

pub cubes-more : (cases : List Case) (place : ℕ) (item : Case) (made : List Cube) (cube : Cube) → place < length cases → item ≡ get_or cases place item → made ≡ map cube_of (take place cases) → cube ≡ cube_of item →
    made ++ cube ∷ [] ≡ map cube_of (take (place + 1) cases)
cubes-more cases place item made cube inside is made_are cube_is =
    ap (λ (cs : List Cube). cs ++ cube ∷ []) made_are
    ∙ ap (λ (c : Cube). map cube_of (take place cases) ++ c ∷ []) (cube_is ∙ ap cube_of is)
    ∙ sym (map-push (take place cases) (get_or cases place item))
    ∙ ap (map cube_of) (sym (take_more cases place item inside))

pub usable-more : (n : ℕ) (cases : List Case) (place : ℕ) (item : Case) → place < length cases → item ≡ get_or cases place item → All (IsUsable n) (take place cases) → IsUsable n item → All (IsUsable n) (take (place + 1) cases)
usable-more n cases place item inside is before last =
    subst (All (IsUsable n)) (sym (take_more cases place item inside)) (All-push (IsUsable n) (take place cases) (get_or cases place item) before (subst (IsUsable n) is last))

pub cubes-usable : (net : Parts) (cases : List Case) (asked : List Cube) → asked ≡ map cube_of cases → All (IsUsable (first_gate net)) cases → All (λ cube. IsCubeOf net cube.fixed) asked
cubes-usable net cases asked is usable =
    subst (All (λ (cube : Cube). IsCubeOf net cube.fixed)) (sym is)
    (All-map (λ (cube : Cube). IsCubeOf net cube.fixed) cube_of cases
    (λ k d less. All-map (λ (fixed : Fixed). fixed.column < columns net) fixed_of (get_or cases k d).cube.items (λ j e l. (usable k d less).cube j e l)))

-- ---- at a care vector

-- a value that the vector has holds at its bits
holds-at : (v : List Bool) (e : ColumnValue) → e.column < length v → Has v e → Holds (bits v) e
holds-at v e low has = get_or-map bit v e.column false X low ∙ ap bit has

contradicted-at : (v : List Bool) (e : ColumnValue) → e.column < length v → get_or v e.column false ≡ not e.value → IsContradicted (bits v) e
contradicted-at v e low has = get_or-map bit v e.column false X low ∙ ap bit has

all-hold : (v : List Bool) (values : List ColumnValue) → AreOfColumns (length v) values → HasAll v values → All (Holds (bits v)) values
all-hold v values low has = λ k d less. holds-at v (get_or values k d) (low k d less) (has k d less)

-- it has all values, or contradicts one
all-or-contradicted : (v : List Bool) (values : List ColumnValue) → HasAll v values ⊎ Any (λ e. get_or v e.column false ≡ not e.value) values
all-or-contradicted v [] = inl (All-nil (Has v))
all-or-contradicted v (e ∷ values) = elim (same-or-other (get_or v e.column false) e.value) [
  | inl same ↦ elim (all-or-contradicted v values) [
    | inl all ↦ inl (All-cons (Has v) e values same all)
    | inr some ↦ inr (suc some.0, some.1, omega (arith, some.2), some.3, some.4)
  ]
  | inr other ↦ inr (0, e, omega arith, refl, other)
]

module _ (net : Parts) (care : CareSet) (cases : List Case) (usable : All (IsUsable (first_gate net)) cases) (shown : AreShown cases (length cases) net care) (covered : LeaveNoneOut net care (map cube_of cases)) (v : List Bool) (counts : IsCareVector net care v) where
  wide : length v ≡ first_gate net
  wide = counts.width

  low-in : (values : List ColumnValue) → AreOfColumns (first_gate net) values → AreOfColumns (length v) values
  low-in values low = subst (λ (n : ℕ). AreOfColumns n values) (sym wide) low

  abbrev place : ℕ
  place = (covered v counts).0

  inside : place < length cases
  inside = let l = (covered v counts).2 in omega (arith, l, length-map cases cube_of)

  here-has : (d : Case) → HasAll v (get_or cases place d).cube.items
  here-has d =
      let found = covered v counts in
      all-fixed v (get_or cases place d).cube.items
      (subst (λ (c : Cube). IsInCube c.fixed v) (sym found.3 ∙ get_or_default (map cube_of cases) place found.1 (cube_of d) found.2 ∙ get_or-map cube_of cases place d (cube_of d) inside) found.4)

  others-out : (i : ℕ) (d : Case) → i < length cases → i ≢ place → IsRuledOut (bits v) (get_or cases i d)
  others-out i d less apart = elim (all-or-contradicted v (get_or cases i d).cube.items) [
    | inl all ↦ absurd (elim (cases_lt i place) [
      | inl before ↦ shown.apart place i d before inside v counts (here-has d) all
      | inr behind ↦ shown.apart i place d (omega (arith, behind, apart)) less v counts all (here-has d)
    ])
    | inr some ↦
        let e = some.1 in
        record {
          literal = e;
          among = (some.0, some.2, some.3);
          contradicted = contradicted-at v e (subst (λ (x : ColumnValue). x.column < length v) some.3 (low-in (get_or cases i d).cube.items (usable i d less).cube some.0 e some.2)) some.4;
        }
  ]

  pub in-one-case : IsInOneCase cases (bits v)
  in-one-case = record {
    number = place;
    within = inside;
    here = λ d. record {
      cube = all-hold v (get_or cases place d).cube.items (low-in (get_or cases place d).cube.items (usable place d inside).cube) (here-has d);
      known = all-hold v (get_or cases place d).known.items (low-in (get_or cases place d).known.items (usable place d inside).known) (shown.forced place d inside v counts (here-has d));
    };
    others = others-out;
  }
