-- Places of names in lists, and values taken by name.
use Rattle.std.proofs.Common.{◌≡◌, inl, inr, ℕ, ◌+◌, ◌-◌, ◌<◌, Bool, true, false, cond, List, [], ◌++◌, length, map, get_or, position, Option, Some, None, refl, sym, ap, ◌∙◌, arith, true≢false}
use Rattle.miters.proofs.Common.{list_any, bytes_eq, list_any_none, get_or-map, get_or_append_left, get_or-append-add, length-append, length-map, position-Some, Trit, X, bits, none_found, number_or_0, renamed}
use Rattle.miters.proofs.NameLemmas.{nowhere_any}
use Rattle.std.specs.List.{position_or_len}
use Rattle.std.proofs.lemmas.Bool.{cases_lt, lt-ltb}
use Rattle.std.proofs.lemmas.List.{ext_get_or}
use Rattle.std.proofs.lemmas.List.Sums.{position_or_len_is}
use Rattle.std.proofs.lemmas.Slice.Eq.{bytes_eq-Decides}
use Rattle.cyc_base.specs.Values.{bit}

-- ---- a place of a name

-- the first place of a name in a list that has it
pub record IsPlaceOf (names : List (List ℕ)) (name : List ℕ) (place : ℕ) : Type 0 where
  pub is : position (bytes_eq name) names ≡ Some place
  pub within : place < length names
  pub named : get_or names place [] ≡ name

place_is : (names : List (List ℕ)) (name : List ℕ) (place : ℕ) → position (bytes_eq name) names ≡ Some place → IsPlaceOf names name place
place_is names name place is =
    let p = position-Some (bytes_eq name) names place [] is in
    record { is = is; within = p.0; named = sym ((bytes_eq-Decides name (get_or names place [])).0 p.1) }

-- the first place at which a test passes
first_place : (p : List ℕ → Bool) (xs : List (List ℕ)) (n : ℕ) → n < length xs → p (get_or xs n []) ≡ true → ((k : ℕ) → k < n → p (get_or xs k []) ≡ false) → position p xs ≡ Some n
first_place p xs n inside here before =
    let is : position_or_len p xs ≡ n = position_or_len_is p xs n [] (omega (arith, inside)) (λ k less. before k less) (λ _. here) in
    let below : position_or_len p xs < length xs = omega (arith, is, inside) in
    ap (λ t. cond t (Some (position_or_len p xs)) None) (lt-ltb (position_or_len p xs) (length xs) below) ∙ ap (λ (m : ℕ). Some m) is

pub place_of : (names : List (List ℕ)) (name : List ℕ) → list_any (bytes_eq name) names ≡ true → (place : ℕ) × IsPlaceOf names name place
place_of names name any = by (position (bytes_eq name) names) refl
  where
    by : (o : Option ℕ) → position (bytes_eq name) names ≡ o → (place : ℕ) × IsPlaceOf names name place
    by (Some n) is = (n, place_is names name n is)
    by None is = absurd (true≢false (sym any ∙ list_any_none (bytes_eq name) names (none_found (bytes_eq name) names is)))

-- in two lists, one behind the other
pub place_first : (p : List ℕ → Bool) (xs ys : List (List ℕ)) (n : ℕ) → position p xs ≡ Some n → position p (xs ++ ys) ≡ Some n
place_first p xs ys n is =
    let at = position-Some p xs n [] is in
    let long = length-append xs ys in
    let inside : n < length xs = at.0 in
    first_place p (xs ++ ys) n (omega (arith, long, inside)) (ap p (get_or_append_left xs ys [] n inside) ∙ at.1)
    (λ k less. ap p (get_or_append_left xs ys [] k (omega (arith, less, inside))) ∙ at.2 k less)

pub place_behind : (p : List ℕ → Bool) (xs ys : List (List ℕ)) (n : ℕ) → list_any p xs ≡ false → position p ys ≡ Some n → position p (xs ++ ys) ≡ Some (length xs + n)
place_behind p xs ys n none is =
    let at = position-Some p ys n [] is in
    let long = length-append xs ys in
    let inside : n < length ys = at.0 in
    first_place p (xs ++ ys) (length xs + n) (omega (arith, long, inside)) (ap p (get_or-append-add xs ys n []) ∙ at.1)
    (λ k less. elim (cases_lt k (length xs)) [
      | inl low ↦ ap p (get_or_append_left xs ys [] k low) ∙ nowhere_any p xs none k [] low
      | inr high ↦
          let j : ℕ = k - length xs in
          let e : length xs + j ≡ k = omega (arith, high) in
          ap (λ m. p (get_or (xs ++ ys) m [])) (sym e) ∙ ap p (get_or-append-add xs ys j []) ∙ at.2 j (omega (arith, less, high))
    ])

-- ---- values by name

pub length-renamed : (from to : List (List ℕ)) (values : List Bool) → length (renamed from to values) ≡ length to
length-renamed from to values = length-map to (λ name. get_or values (number_or_0 (position (bytes_eq name) from)) false)

-- values that are found so are those
pub renamed_is : (from to : List (List ℕ)) (xs ys : List Bool) → length ys ≡ length to →
    ((k : ℕ) → k < length to → get_or ys k false ≡ get_or xs (number_or_0 (position (bytes_eq (get_or to k [])) from)) false) → ys ≡ renamed from to xs
renamed_is from to xs ys long each =
    let r = length-renamed from to xs in
    ext_get_or false ys (renamed from to xs) (omega (arith, long, r)) (λ k less.
    each k (omega (arith, less, long)) ∙ sym (get_or-map (λ name. get_or xs (number_or_0 (position (bytes_eq name) from)) false) to k [] false (omega (arith, less, long))))

-- ---- bits of ternary values

-- a value of a list that stands for ternary ones
pub bit_read : {T : Type 0} (f : T → Bool) (g : T → Trit) (xs : List T) → bits (map f xs) ≡ map g xs → (k : ℕ) (d : T) → k < length xs → bit (get_or (map f xs) k false) ≡ g (get_or xs k d)
bit_read f g xs same k d less =
    let m = length-map xs f in
    sym (get_or-map bit (map f xs) k false X (omega (arith, less, m)))
    ∙ ap (λ (ts : List Trit). get_or ts k X) same
    ∙ get_or-map g xs k d X less
