-- Variables of a formula under numbers of a solver's own.
use Rattle.std.proofs.Common.{◌≡◌, ◌≢◌, inl, inr, ℕ, ◌+◌, ◌*◌, ◌/◌, ◌<◌, ◌≤◌, ◌==◌, true, false, List, [], ◌∷◌, ◌++◌, length, get_or, set, refl, sym, ap, ◌∙◌, arith, true≢false}
use Rattle.std.specs.List.{All}
use Rattle.std.proofs.lemmas.Bool.{cases_lt, eq-eqb, eqb-true, false_from_ne_true}
use Rattle.std.proofs.lemmas.List.{get_or_default, get_or_past, get_or_push, get_or_append_left, get_or-set_same, get_or-set_other, length_push, length-set}
use Rattle.std.proofs.lemmas.Map.Keys.{IsDistinct-from_apart}
use Rattle.std.proofs.lemmas.Map.Steps.{length-le_from_distinct_below}
use Rattle.std.proofs.lemmas.Map.Views.{Contains-from_any}
use Rattle.clause_queries.specs.declared.names.Names.{Names}
use Rattle.clause_queries.specs.Names.{has, name_of, number_of, AreNames, AreNumbered, HasNumber}

module _ (n : Names) (are : AreNames n) where
  -- a variable that has a number
  pub named_by : (v : ℕ) → has n v ≡ true → name_of n (number_of n v) ≡ v
  named_by v is = eqb-true (name_of n (number_of n v)) v is

  -- it is one of those
  pub number_within : (v : ℕ) → v < length n.numbers.items → has n v ≡ true → number_of n v < length n.names.items
  number_within v less is = elim (cases_lt (number_of n v) (length n.names.items)) [
    | inl low ↦ low
    | inr high ↦
        let name : 4294967295 ≡ v = sym (get_or_past n.names.items (number_of n v) 4294967295 high) ∙ named_by v is in
        let few = are.few in
        absurd (omega (arith, name, few, less))
  ]

  -- the variable of a number has it
  pub has-name : (i : ℕ) → i < length n.names.items → has n (name_of n i) ≡ true
  has-name i less = eq-eqb (name_of n (number_of n (name_of n i))) (name_of n i) (ap (name_of n) (are.numbered i less))

  -- no two numbers are of one variable
  apart : (i j d : ℕ) → i < j → j < length n.names.items → (get_or n.names.items i d == get_or n.names.items j d) ≡ false
  apart i j d low high = false_from_ne_true _ (λ is.
      let first : get_or n.names.items i d ≡ name_of n i = get_or_default n.names.items i d 4294967295 (omega (arith, low, high)) in
      let second : get_or n.names.items j d ≡ name_of n j = get_or_default n.names.items j d 4294967295 high in
      let same : name_of n i ≡ name_of n j = sym first ∙ eqb-true (get_or n.names.items i d) (get_or n.names.items j d) is ∙ second in
      let one : i ≡ j = sym (are.numbered i (omega (arith, low, high))) ∙ ap (number_of n) same ∙ are.numbered j high in
      omega (arith, one, low))

  -- so there are no more of them than variables
  pub few_names : length n.names.items ≤ length n.numbers.items
  few_names = length-le_from_distinct_below n.names.items (length n.numbers.items) (IsDistinct-from_apart (λ a b. a == b) n.names.items apart)
      (λ q member.
      let found = Contains-from_any {eq = λ a b. a == b} (λ x y is. eqb-true x y is) q n.names.items member in
      let name : name_of n found.0 ≡ q = get_or_default n.names.items found.0 4294967295 q found.1 ∙ found.2 in
      let within = are.within found.0 found.1 in
      omega (arith, name, within))

  pub number_fits : (v : ℕ) → v < length n.numbers.items → has n v ≡ true → number_of n v < 2147483648
  number_fits v less is =
      let low = number_within v less is in
      let high = few_names in
      let few = are.few in
      omega (arith, low, high, few)

-- ---- one more

-- a variable that has no number gets the next one
module _ (old new : Names) (are : AreNames old) (v : ℕ) (less : v < length old.numbers.items) (hasnt : has old v ≡ false)
    (names : new.names.items ≡ old.names.items ++ v ∷ []) (numbers : new.numbers.items ≡ set old.numbers.items v (length old.names.items)) where
  width : length new.numbers.items ≡ length old.numbers.items
  width = ap length numbers ∙ length-set old.numbers.items v (length old.names.items)

  size : length new.names.items ≡ length old.names.items + 1
  size = ap length names ∙ length_push old.names.items v

  name-before : (i : ℕ) → i < length old.names.items → name_of new i ≡ name_of old i
  name-before i low = ap (λ xs. get_or xs i 4294967295) names ∙ get_or_append_left old.names.items (v ∷ []) 4294967295 i low

  name-last : name_of new (length old.names.items) ≡ v
  name-last = ap (λ xs. get_or xs (length old.names.items) 4294967295) names ∙ get_or_push old.names.items v 4294967295 (length old.names.items) refl

  number-there : number_of new v ≡ length old.names.items
  number-there = ap (λ xs. get_or xs v 0) numbers ∙ get_or-set_same old.numbers.items v (length old.names.items) 0 less

  number-elsewhere : (w : ℕ) → w ≢ v → number_of new w ≡ number_of old w
  number-elsewhere w other = ap (λ xs. get_or xs w 0) numbers ∙ get_or-set_other old.numbers.items v w (length old.names.items) 0 other

  -- the variables that had numbers are others
  other : (w : ℕ) → has old w ≡ true → w ≢ v
  other w is same = true≢false (sym is ∙ ap (has old) same ∙ hasnt)

  numbered : (i : ℕ) → i < length new.names.items → number_of new (name_of new i) ≡ i
  numbered i low = elim (cases_lt i (length old.names.items)) [
    | inl before ↦
        ap (number_of new) (name-before i before)
        ∙ number-elsewhere (name_of old i) (other (name_of old i) (has-name old are i before))
        ∙ are.numbered i before
    | inr past ↦
        let last : length old.names.items ≡ i = (let s = size in omega (arith, s, low, past)) in
        ap (λ k. number_of new (name_of new k)) (sym last) ∙ ap (number_of new) name-last ∙ number-there ∙ last
  ]

  within : (i : ℕ) → i < length new.names.items → name_of new i < length new.numbers.items
  within i low = elim (cases_lt i (length old.names.items)) [
    | inl before ↦ (let name = name-before i before in let fits = are.within i before in let w = width in omega (arith, name, fits, w))
    | inr past ↦
        let last : length old.names.items ≡ i = (let s = size in omega (arith, s, low, past)) in
        let name : name_of new i ≡ v = ap (name_of new) (sym last) ∙ name-last in
        let w = width in
        omega (arith, name, less, w)
  ]

-- ---- the variables of literals

-- those of the formula's variables have numbers
pub have-numbers : (n : Names) (variables : ℕ) (literals : List ℕ) → length n.numbers.items ≡ variables → AreNumbered n literals → All (λ l. l < 2 * variables) literals → All (HasNumber n) literals
have-numbers n variables literals width are within k d less =
    let l : ℕ = get_or literals k d in
    let fits = within k d less in
    let low : l / 2 < length n.numbers.items = omega (arith, fits, width) in
    record { within = low; has_it = are k d less low }
