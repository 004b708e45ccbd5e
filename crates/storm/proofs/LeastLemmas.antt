-- The least completion with a value, found place by place.
use Rattle.std.proofs.Common.{◌≡◌, ◌↔◌, ◌≢◌, ◌⊎◌, inl, inr, ◌<◌, ℕ, zero, suc, Bool, true, false, not, List, [], ◌∷◌, length, map, get_or, set, refl, ap, ap₂, sym, ◌∙◌, subst, arith, true≢false, Some, None}
use Rattle.std.specs.Prelude.{option_map, unwrap_or}
use Rattle.std.specs.List.{find, list_all}
use Rattle.std.specs.Option.{option_or}
use Rattle.std.specs.declared.option.Option.{Option}
use Rattle.std.proofs.lemmas.List.{set-set}
use Rattle.std.proofs.lemmas.List.Folds.{find-append}
use Rattle.std.proofs.lemmas.Bool.{not-true, not_from_false}
use Rattle.cyc_base.specs.declared.trit.Trit.{Trit}
use Rattle.cyc_base.specs.declared.trit.Trit.TheVariants.{Zero, One, X}
use Rattle.cyc_base.specs.Values.{bit, bits, Below, Completes}
use Rattle.cyc_base.specs.Vectors.{AtMost}
use Rattle.cyc_base.proofs.ListLemmas.{find-map, option_map-nothing, option_map-or, option_or-cases}
use Rattle.cover_logic.specs.Extensions.{completions, exact}
use Rattle.cover_logic.proofs.ExtensionLemmas.{exact_says, exact_from, exact_at_bits, exact_split, passes_above, passes_listed}
use Rattle.storm.specs.Least.{is, first_where, least_where, IsLeastWhere, AreKnown}
use Rattle.storm.specs.Plans.{or_zero}
use Rattle.storm.specs.Laws.{FirstIsLeast}

-- ---- a value is the wanted one, or the other

is_wanted : (wanted b : Bool) → (is wanted b ≡ true) ↔ (b ≡ wanted)
is_wanted wanted b = grind arith

is_other : (wanted b : Bool) → (is wanted b ≡ false) ↔ (b ≡ not wanted)
is_other wanted b = grind arith

other_is : (wanted b : Bool) → b ≢ not wanted → is wanted b ≡ true
other_is wanted b n = grind arith

-- ---- the first that passes a test

none_passes : {A : Type 0} (p : A → Bool) (xs : List A) → (find p xs ≡ None) ↔ (list_all (λ x. not (p x)) xs ≡ true)
none_passes p [] = (λ e. refl, λ e. refl)
none_passes p (x ∷ xs) = grind (arith, none_passes p xs)

-- no completion passes where none is found
none_above : (p : List Bool → Bool) (ts : List Trit) → find p (completions ts) ≡ None → (bs : List Bool) → Completes ts bs → p bs ≡ false
none_above p ts none bs above = not-true (p bs) (passes_above (λ cs. not (p cs)) ts ((none_passes p (completions ts)).0 none) bs above)

-- with one known value in front of all
find_behind : (b : Bool) (p : List Bool → Bool) (xs ys zs : List (List Bool)) → find (λ bs. p (b ∷ bs)) xs ≡ option_or (find (λ bs. p (b ∷ bs)) ys) (find (λ bs. p (b ∷ bs)) zs)
    → find p (map (λ bs. b ∷ bs) xs) ≡ option_or (find p (map (λ bs. b ∷ bs) ys)) (find p (map (λ bs. b ∷ bs) zs))
find_behind b p xs ys zs split =
    rw (find-map p (λ bs. b ∷ bs) xs, find-map p (λ bs. b ∷ bs) ys, find-map p (λ bs. b ∷ bs) zs, split)
    (option_map-or (λ bs. b ∷ bs) (find (λ bs. p (b ∷ bs)) ys) (find (λ bs. p (b ∷ bs)) zs))

-- where a place is X, those with 0 there come first
find_split : (p : List Bool → Bool) (ts : List Trit) (n : ℕ) → AreKnown ts n → n < length ts → get_or ts n X ≡ X
    → find p (completions ts) ≡ option_or (find p (completions (set ts n Zero))) (find p (completions (set ts n One)))
find_split p [] n known l x = absurd (omega arith)
find_split p (X ∷ ts) zero known l x = find-append p (map (λ bs. false ∷ bs) (completions ts)) (map (λ bs. true ∷ bs) (completions ts))
find_split p (X ∷ ts) (suc n) known l x = absurd (known 0 (omega arith) refl)
find_split p (Zero ∷ ts) (suc n) known l x =
    find_behind false p (completions ts) (completions (set ts n Zero)) (completions (set ts n One))
    (find_split (λ bs. p (false ∷ bs)) ts n (λ i m. known (suc i) (omega arith)) (omega arith) x)
find_split p (One ∷ ts) (suc n) known l x =
    find_behind true p (completions ts) (completions (set ts n Zero)) (completions (set ts n One))
    (find_split (λ bs. p (true ∷ bs)) ts n (λ i m. known (suc i) (omega arith)) (omega arith) x)
find_split p (t ∷ ts) zero known l x = cc

-- ---- a value that is possible

none_where : (f : List Bool → Bool) (wanted : Bool) (ts : List Trit) → exact f ts ≡ bit (not wanted) → first_where f wanted ts ≡ None
none_where f wanted ts out = grind (arith, none_passes, passes_listed, not_from_false, is_other wanted, exact_says f ts (not wanted) out)

some_is : {A : Type 0} (o : Option A) → o ≢ None → (x : A) × (o ≡ Some x)
some_is o n = grind arith

-- there is a first completion with a value that isn't excluded
pub found_where : (f : List Bool → Bool) (wanted : Bool) (ts : List Trit) → exact f ts ≢ bit (not wanted) → (bs : List Bool) × (first_where f wanted ts ≡ Some bs)
found_where f wanted ts possible =
    some_is (first_where f wanted ts)
    (λ none. possible (exact_from f ts (not wanted) (λ bs above. (is_other wanted (f bs)).0 (none_above (λ cs. is wanted (f cs)) ts none bs above))))

module _ (f : List Bool → Bool) (wanted : Bool) (ts : List Trit) (n : ℕ) (known : AreKnown ts n) (inside : n < length ts) (unknown : get_or ts n X ≡ X) where
  -- 0 is kept where the value is possible with it
  pub zero_kept : exact f (set ts n Zero) ≢ bit (not wanted) → least_where f wanted (set ts n Zero) ≡ least_where f wanted ts
  zero_kept possible =
      let (bs, found) = found_where f wanted (set ts n Zero) possible in
      ap (λ o. unwrap_or o []) (found ∙ sym (find_split (λ cs. is wanted (f cs)) ts n known inside unknown ∙ ap (λ o. option_or o (first_where f wanted (set ts n One))) found))

  -- else it is 1
  pub one_taken : exact f (set ts n Zero) ≡ bit (not wanted) → least_where f wanted (set (set ts n Zero) n One) ≡ least_where f wanted ts
  one_taken out =
      ap (least_where f wanted) (set-set ts n Zero One)
      ∙ ap (λ o. unwrap_or o []) (sym (find_split (λ cs. is wanted (f cs)) ts n known inside unknown ∙ ap (λ o. option_or o (first_where f wanted (set ts n One))) (none_where f wanted (set ts n Zero) out)))

  pub one_possible : exact f ts ≢ bit (not wanted) → exact f (set ts n Zero) ≡ bit (not wanted) → exact f (set (set ts n Zero) n One) ≢ bit (not wanted)
  one_possible possible out both = grind (arith, exact_split f ts n (not wanted) unknown, set-set ts n Zero One)

-- ---- all values are known

pub known_are_bits : (ts : List Trit) → AreKnown ts (length ts) → ts ≡ bits (map or_zero ts)
known_are_bits [] known = refl
known_are_bits (X ∷ ts) known = absurd (known 0 (omega arith) refl)
known_are_bits (Zero ∷ ts) known = ap (λ rest. Zero ∷ rest) (known_are_bits ts (λ i l. known (suc i) (omega arith)))
known_are_bits (One ∷ ts) known = ap (λ rest. One ∷ rest) (known_are_bits ts (λ i l. known (suc i) (omega arith)))

completions_of_bits : (bs : List Bool) → completions (bits bs) ≡ bs ∷ []
completions_of_bits [] = refl
completions_of_bits (false ∷ bs) = ap (map (λ cs. false ∷ cs)) (completions_of_bits bs)
completions_of_bits (true ∷ bs) = ap (map (λ cs. true ∷ cs)) (completions_of_bits bs)

pub least_of_bits : (f : List Bool → Bool) (wanted : Bool) (bs : List Bool) → exact f (bits bs) ≢ bit (not wanted) → least_where f wanted (bits bs) ≡ bs
least_of_bits f wanted bs possible = grind (arith, other_is wanted (f bs), exact_at_bits f bs, completions_of_bits bs)

-- so they are the least completion
pub least_is_known : (f : List Bool → Bool) (wanted : Bool) (ts : List Trit) → AreKnown ts (length ts) → exact f ts ≢ bit (not wanted) → least_where f wanted ts ≡ map or_zero ts
least_is_known f wanted ts known possible = grind (arith, known_are_bits ts known, least_of_bits f wanted (map or_zero ts))

-- ---- the first completion is the least

abbrev IsFirst : (List Bool → Bool) → List Trit → List Bool → Type 0
IsFirst p ts bs = Completes ts bs × (p bs ≡ true) × ((other : List Bool) → Completes ts other → p other ≡ true → AtMost bs other)

mapped_some : {A B : Type 0} (g : A → B) (o : Option A) (y : B) → option_map g o ≡ Some y → (x : A) × (o ≡ Some x) × (g x ≡ y)
mapped_some g o y e = grind arith

-- the least with this value in front is the least of all, where none of the others that pass is less
first_behind : (b : Bool) (p : List Bool → Bool) (t : Trit) (ts : List Trit) (bs : List Bool) → Below t (bit b)
    → ((cs other : List Bool) → ((ds : List Bool) → Completes ts ds → p (b ∷ ds) ≡ true → AtMost cs ds) → Completes (t ∷ ts) other → p other ≡ true → AtMost (b ∷ cs) other)
    → option_map (λ cs. b ∷ cs) (find (λ cs. p (b ∷ cs)) (completions ts)) ≡ Some bs
    → ((cs : List Bool) → find (λ ds. p (b ∷ ds)) (completions ts) ≡ Some cs → IsFirst (λ ds. p (b ∷ ds)) ts cs) → IsFirst p (t ∷ ts) bs
first_behind b p t ts bs here least found first =
    let (cs, there, same) = mapped_some (λ cs. b ∷ cs) (find (λ cs. p (b ∷ cs)) (completions ts)) bs found in
    let rest = first cs there in
    subst (λ ds. IsFirst p (t ∷ ts) ds) same ((here, rest.0), rest.1, λ other. least cs other rest.2)

pub first_is_least : (p : List Bool → Bool) (ts : List Trit) (bs : List Bool) → find p (completions ts) ≡ Some bs → IsFirst p ts bs
first_is_least p [] bs e = grind arith
first_is_least p (Zero ∷ ts) bs e =
    first_behind false p Zero ts bs refl below (sym (find-map p (λ cs. false ∷ cs) (completions ts)) ∙ e) (first_is_least (λ cs. p (false ∷ cs)) ts)
  where
    below : (cs other : List Bool) → ((ds : List Bool) → Completes ts ds → p (false ∷ ds) ≡ true → AtMost cs ds) → Completes (Zero ∷ ts) other → p other ≡ true → AtMost (false ∷ cs) other
    below cs [] h above ok = absurd above
    below cs (false ∷ other) h above ok = h other above.1 ok
    below cs (true ∷ other) h above ok = let e = above.0 in cc
first_is_least p (One ∷ ts) bs e =
    first_behind true p One ts bs refl below (sym (find-map p (λ cs. true ∷ cs) (completions ts)) ∙ e) (first_is_least (λ cs. p (true ∷ cs)) ts)
  where
    below : (cs other : List Bool) → ((ds : List Bool) → Completes ts ds → p (true ∷ ds) ≡ true → AtMost cs ds) → Completes (One ∷ ts) other → p other ≡ true → AtMost (true ∷ cs) other
    below cs [] h above ok = absurd above
    below cs (true ∷ other) h above ok = h other above.1 ok
    below cs (false ∷ other) h above ok = let e = above.0 in cc
first_is_least p (X ∷ ts) bs e =
    by (first_is_least (λ cs. p (false ∷ cs)) ts) (first_is_least (λ cs. p (true ∷ cs)) ts)
    (option_or-cases (option_map (λ cs. false ∷ cs) low) (option_map (λ cs. true ∷ cs) high) bs split)
  where
    low : Option (List Bool)
    low = find (λ cs. p (false ∷ cs)) (completions ts)

    high : Option (List Bool)
    high = find (λ cs. p (true ∷ cs)) (completions ts)

    split : option_or (option_map (λ cs. false ∷ cs) low) (option_map (λ cs. true ∷ cs) high) ≡ Some bs
    split =
        sym (find-append p (map (λ cs. false ∷ cs) (completions ts)) (map (λ cs. true ∷ cs) (completions ts))
        ∙ ap₂ option_or (find-map p (λ cs. false ∷ cs) (completions ts)) (find-map p (λ cs. true ∷ cs) (completions ts)))
        ∙ e

    below_low : (cs other : List Bool) → ((ds : List Bool) → Completes ts ds → p (false ∷ ds) ≡ true → AtMost cs ds) → Completes (X ∷ ts) other → p other ≡ true → AtMost (false ∷ cs) other
    below_low cs [] h above ok = absurd above
    below_low cs (true ∷ other) h above ok = tt
    below_low cs (false ∷ other) h above ok = h other above.1 ok

    below_high : low ≡ None → (cs other : List Bool) → ((ds : List Bool) → Completes ts ds → p (true ∷ ds) ≡ true → AtMost cs ds) → Completes (X ∷ ts) other → p other ≡ true → AtMost (true ∷ cs) other
    below_high none cs [] h above ok = absurd above
    below_high none cs (true ∷ other) h above ok = h other above.1 ok
    below_high none cs (false ∷ other) h above ok = absurd (true≢false (sym ok ∙ none_above (λ cs. p (false ∷ cs)) ts none other above.1))

    by : ((cs : List Bool) → low ≡ Some cs → IsFirst (λ ds. p (false ∷ ds)) ts cs) → ((cs : List Bool) → high ≡ Some cs → IsFirst (λ ds. p (true ∷ ds)) ts cs)
        → (option_map (λ cs. false ∷ cs) low ≡ Some bs) ⊎ ((option_map (λ cs. false ∷ cs) low ≡ None) × (option_map (λ cs. true ∷ cs) high ≡ Some bs)) → IsFirst p (X ∷ ts) bs
    by lows highs (inl found) = first_behind false p X ts bs tt below_low found lows
    by lows highs (inr found) = first_behind true p X ts bs tt (below_high (option_map-nothing (λ cs. false ∷ cs) low found.0)) found.1 highs

pub first_where_is_least : FirstIsLeast
first_where_is_least f wanted ts bs found = grind (arith, first_is_least, is_wanted wanted (f bs), is_wanted wanted)

-- a possible value has a least completion
pub least_is_least : (f : List Bool → Bool) (wanted : Bool) (ts : List Trit) → exact f ts ≢ bit (not wanted) → IsLeastWhere f wanted ts (least_where f wanted ts)
least_is_least f wanted ts possible =
    let (bs, found) = found_where f wanted ts possible in
    subst (λ cs. IsLeastWhere f wanted ts cs) (sym (ap (λ o. unwrap_or o []) found)) (first_where_is_least f wanted ts bs found)
