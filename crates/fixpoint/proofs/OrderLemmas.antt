-- Columns taken one after another, and that they are a layout in the end.
use Rattle.std.proofs.Common.{◌≡◌, ◌≢◌, ◌⊎◌, ℕ, suc, ◌+◌, ◌<◌, ◌≤◌, eqb, add-one, Bool, true, false, not, ◌||◌, cond, List, [], ◌∷◌, ◌++◌, length, map, filter, take, get_or, set, replicate, refl, sym, ap, ap₂, ◌∙◌, arith, append_assoc, length-set, get_or-set_same, get_or-set_other, true≢false}
use Rattle.std.specs.Prelude.{nat_lt, slice_get, Some}
use Rattle.std.specs.Cmp.{nat_eq_equiv}
use Rattle.fixpoint.proofs.Common.{All, range_with_len, cases_lt, cases_eq, eqb-true, eq-eqb, append-nil, get_or-replicate, length-replicate, take_more, All-append, All-contains, length-range_with_len, IsLayout, Sig, Gate, Parts, first_gate, first_signals, columns_read, AreTaken}
use Rattle.std.specs.List.{IsDistinct, list_any}
use Rattle.std.proofs.lemmas.Bool.{lt-ltb, le-ltb, ltb-true, ne_eqb, not-true}
use Rattle.std.proofs.Math.Bool.{or-true, or-false}
use Rattle.std.proofs.lemmas.List.{map-append}
use Rattle.std.proofs.lemmas.List.Elements.{filter-append, filter_passes, recursion_from_All, All-cons, All-filter, Contains-append_right}
use Rattle.std.proofs.lemmas.List.Folds.{list_any-append}
use Rattle.std.proofs.lemmas.Grind.{flat_map-append}
use Rattle.std.proofs.lemmas.List.FromFn.{get_or-range_with_len}
use Rattle.std.proofs.lemmas.Option.{get_or_from_slice_get, slice_get_within}
use Rattle.std.proofs.lemmas.Map.Keys.{apart_from_distinct}
use Rattle.std.proofs.lemmas.Map.Steps.{length-le_from_distinct_below, le-length_from_below}
use Rattle.std.proofs.lemmas.Map.Views.{any-filter_same, Contains-from_any, list_any-from_Contains}
use Rattle.cyc_base.proofs.ListLemmas.{All-weaker, all_filter, all_weaker, range-suc, Contains-range}
use Rattle.fixpoint.specs.Orders.{each_once, order}

-- ---- each number once

-- one more number
pub each_once-more : (xs : List ℕ) (c : ℕ) → each_once (xs ++ c ∷ []) ≡ each_once xs ++ cond (list_any (eqb c) xs) [] (c ∷ [])
each_once-more [] c = refl
each_once-more (x ∷ xs) c = grind (arith, each_once-more xs c, filter-append, eq-eqb x c, eqb-true c x, ne_eqb x c, true≢false, eq-eqb c x)

-- the numbers of the list, and no others
each_once-any : (xs : List ℕ) (c : ℕ) → list_any (eqb c) (each_once xs) ≡ list_any (eqb c) xs
each_once-any [] c = refl
each_once-any (x ∷ xs) c = by (each_once-any xs c) (eqb c x) refl
  where
    by : list_any (eqb c) (each_once xs) ≡ list_any (eqb c) xs → (b : Bool) → eqb c x ≡ b → (b || list_any (eqb c) (filter (λ m. not (eqb x m)) (each_once xs))) ≡ (b || list_any (eqb c) xs)
    by rest true same = refl
    by rest false other =
        any-filter_same (eqb c) (λ m. not (eqb x m)) true
        (λ m e. ap not (ne_eqb x m (λ same. true≢false (sym (eq-eqb c x (eqb-true c m e ∙ sym same)) ∙ other)))) (each_once xs)
        ∙ rest

distinct-filter : (p : ℕ → Bool) (xs : List ℕ) → IsDistinct eqb xs → IsDistinct eqb (filter p xs)
unfolding IsDistinct
distinct-filter p [] is = tt
distinct-filter p (x ∷ xs) is = grind (arith, distinct-filter p xs is.1, all_filter)

each_once-distinct : (xs : List ℕ) → IsDistinct eqb (each_once xs)
unfolding IsDistinct
each_once-distinct [] = tt
each_once-distinct (x ∷ xs) = grind (arith, all_weaker, not-true, recursion_from_All, filter_passes, distinct-filter, each_once-distinct xs)

-- numbers in order, one more
pub columns-more : (from : List ℕ) (n : ℕ) → (from ++ range_with_len 0 n) ++ n ∷ [] ≡ from ++ range_with_len 0 (n + 1)
columns-more from n = grind (arith, append_assoc from (range_with_len 0 n) (n ∷ []), add-one, range-suc 0 n)

-- ---- columns taken

pub taken-none : (n : ℕ) → AreTaken [] (replicate n false) []
taken-none n = record { taken = refl; marked = λ c less. get_or-replicate n c false false (omega (arith, less, length-replicate n false)) }

-- one more, which may be taken already
pub taken-more : (from : List ℕ) (marks : List Bool) (columns : List ℕ) (c : ℕ) → c < length marks → AreTaken from marks columns →
    AreTaken (from ++ c ∷ []) (set marks c true) (columns ++ cond (get_or marks c false) [] (c ∷ []))
taken-more from marks columns c within are = record {
  taken = ap₂ (λ (ys : List ℕ) t. ys ++ cond t [] (c ∷ [])) are.taken (are.marked c within) ∙ sym (each_once-more from c);
  marked = λ m less. by m (omega (arith, less, length-set marks c true)) (cases_eq m c) ∙ sym (list_any-append (eqb m) from (c ∷ []));
}
  where
    by : (m : ℕ) → m < length marks → (m ≡ c) ⊎ (m ≢ c) → get_or (set marks c true) m false ≡ (list_any (eqb m) from || (eqb m c || false))
    by m inside h = grind (arith, get_or-set_same, eq-eqb, or-true, get_or-set_other, ne_eqb, or-false)

-- ---- columns that are read

-- a pin more
read-more : (n : ℕ) (pins : List Sig) (i : ℕ) (d : Sig) → i < length pins → first_signals n (take (i + 1) pins) ≡ first_signals n (take i pins) ++ cond (nat_lt (get_or pins i d).0 n) ((get_or pins i d).0 ∷ []) []
read-more n pins i d inside = grind (arith, take_more pins i d inside, map-append, filter-append)

pub read-column : (n : ℕ) (pins : List Sig) (i : ℕ) (d : Sig) (from : List ℕ) → i < length pins → (get_or pins i d).0 < n → from ++ first_signals n (take (i + 1) pins) ≡ (from ++ first_signals n (take i pins)) ++ (get_or pins i d).0 ∷ []
read-column n pins i d from inside low = grind (arith, read-more n pins i d inside, lt-ltb (get_or pins i d).0 n low, append_assoc from (first_signals n (take i pins)) ((get_or pins i d).0 ∷ []))

pub read-other : (n : ℕ) (pins : List Sig) (i : ℕ) (d : Sig) → i < length pins → n ≤ (get_or pins i d).0 → first_signals n (take (i + 1) pins) ≡ first_signals n (take i pins)
read-other n pins i d inside high = grind (arith, read-more n pins i d inside, le-ltb (get_or pins i d).0 n high, append-nil (first_signals n (take i pins)))

-- a gate more
pub gate-more : (n : ℕ) (gates : List Gate) (i : ℕ) (gate : Gate) → slice_get gates i ≡ Some gate → columns_read n (take (i + 1) gates) ≡ columns_read n (take i gates) ++ first_signals n gate.pins
gate-more n gates i gate found = grind (arith, slice_get_within gates i gate found, take_more gates i gate, get_or_from_slice_get gates i gate gate found, flat_map-append, append-nil (first_signals n gate.pins))

-- ---- a layout

low-read : (n : ℕ) (gates : List Gate) → All (λ s. s < n) (columns_read n gates)
low-read n [] = λ k d less. absurd (omega (arith, less))
low-read n (gate ∷ gates) =
    All-append (λ s. s < n) (first_signals n gate.pins) (columns_read n gates)
    (All-weaker (λ s. nat_lt s n ≡ true) (λ s. s < n) (first_signals n gate.pins) (λ s. ltb-true s n) (filter_passes (λ s. nat_lt s n) (map (λ (pin : Sig). pin.0) gate.pins))) (low-read n gates)

low-each : (n : ℕ) (xs : List ℕ) → All (λ s. s < n) xs → All (λ s. s < n) (each_once xs)
low-each n [] low = low
low-each n (x ∷ xs) low =
    All-cons (λ s. s < n) x (filter (λ m. not (eqb x m)) (each_once xs)) (low 0 x (omega arith))
    (All-filter (λ m. not (eqb x m)) (λ s. s < n) (each_once xs) (low-each n xs (λ k d less. low (suc k) d (omega (arith, less)))))

module _ (net : Parts) where
  abbrev n : ℕ
  n = first_gate net

  abbrev all : List ℕ
  all = columns_read n net.gates ++ range_with_len 0 n

  below : All (λ s. s < n) (order net)
  below = low-each n all (All-append (λ s. s < n) (columns_read n net.gates) (range_with_len 0 n) (low-read n net.gates)
      (λ k d less. let long = length-range_with_len 0 n in let at = get_or-range_with_len 0 n k d (omega (arith, less, long)) in omega (arith, at, less, long)))

  -- each column is there
  there : (c : ℕ) → c < n → list_any (eqb c) (order net) ≡ true
  there c less =
      grind (arith, each_once-any all c, list_any-from_Contains nat_eq_equiv c all (Contains-append_right (columns_read n net.gates) (range_with_len 0 n) c (Contains-range n c less)), Contains-append_right (columns_read n net.gates) (range_with_len 0 n) c (Contains-range n c less), Contains-range n c less)

  member-below : (q : ℕ) → list_any (eqb q) (order net) ≡ true → q < n
  member-below q is = All-contains (λ s. s < n) (order net) q below (Contains-from_any {eq = eqb} eqb-true q (order net) is)

  wide : length (order net) ≡ n
  wide = grind (arith, length-le_from_distinct_below (order net) n (each_once-distinct all) member-below, each_once-distinct all, member-below, le-length_from_below (order net) n there, there)

  apart : (j k : ℕ) → j < k → k < n → get_or (order net) j 0 ≢ get_or (order net) k 0
  apart j k less within same = grind (arith, wide, true≢false, eq-eqb (get_or (order net) j 0) (get_or (order net) k 0) same, apart_from_distinct eqb (order net) j k 0 (each_once-distinct all) less, each_once-distinct all)

  pub order-is : IsLayout (first_gate net) (order net)
  order-is = grind (arith, wide, below, cases_lt, apart, cases_eq)
