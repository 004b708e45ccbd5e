-- Vectors by column and by variable: each is one of the other, where the columns are a layout.
use Rattle.std.proofs.Common.{◌≡◌, inl, inr, ℕ, zero, suc, ◌+◌, ◌<◌, ◌≤◌, eqb, Bool, false, List, [], ◌∷◌, ◌++◌, length, take, get_or, set, replicate, refl, sym, ap, ◌∙◌, arith, length-set}
use Rattle.std.specs.List.{Contains, IsDistinct, list_any}
use Rattle.fixpoint.proofs.Common.{All, All-contains, All-push, length_push, cases_Bool, eqb-true, ext_get_or, get_or_default, length-map, length-replicate, take_more, take_all, IsLayout}
use Rattle.std.proofs.lemmas.Bool.{ne_eqb}
use Rattle.std.proofs.lemmas.List.{take_more_set}
use Rattle.std.specs.Cmp.{nat_eq_equiv}
use Rattle.std.proofs.lemmas.Map.Keys.{IsDistinct-from_apart, IsDistinct-push}
use Rattle.std.proofs.lemmas.Map.Steps.{length-le_from_distinct_below}
use Rattle.std.proofs.lemmas.Map.Views.{Contains-from_any}
use Rattle.bdd_ops.specs.Least.{by_variable}
use Rattle.bdd_ops.proofs.PossibleLemmas.{by_variable-read, by_variable-set}

pub length-by_variable : (columns : List ℕ) (v : List Bool) → length (by_variable columns v) ≡ length columns
length-by_variable columns v = length-map columns (λ c. get_or v c false)

-- the variable of a column
pub record IsVariableOf (n : ℕ) (columns : List ℕ) (c : ℕ) : Type 0 where
  pub number : ℕ
  pub within : number < n
  pub is : get_or columns number 0 ≡ c

-- ---- the vector by column of one by variable

-- the first k variables are written
written : List ℕ → List Bool → ℕ → List Bool
written columns w zero = replicate (length columns) false
written columns w (suc k) = set (written columns w k) (get_or columns k 0) (get_or w k false)

pub by_column : List ℕ → List Bool → List Bool
by_column columns w = written columns w (length columns)

length-written : (columns : List ℕ) (w : List Bool) (k : ℕ) → length (written columns w k) ≡ length columns
unfolding written
length-written columns w zero = length-replicate (length columns) false
length-written columns w (suc k) = length-set (written columns w k) (get_or columns k 0) (get_or w k false) ∙ length-written columns w k

pub length-by_column : (columns : List ℕ) (w : List Bool) → length (by_column columns w) ≡ length columns
unfolding by_column
length-by_column columns w = length-written columns w (length columns)

module _ (n : ℕ) (columns : List ℕ) (are : IsLayout n columns) where
  written-read : (w : List Bool) → length w ≡ n → (k : ℕ) → k ≤ n → take k (by_variable columns (written columns w k)) ≡ take k w
  unfolding written
  written-read w wide zero within = refl
  written-read w wide (suc k) within =
      let long = are.long in
      let c : ℕ = get_or columns k 0 in
      let b : Bool = get_or w k false in
      let before : List Bool = written columns w k in
      let low : c < n = are.within k (omega (arith, within)) in
      let l = length-written columns w k in
      let lv = length-by_variable columns before in
      ap (λ m. take m (by_variable columns (set before c b))) (let e : suc k ≡ k + 1 = omega arith in e)
      ∙ ap (take (k + 1)) (by_variable-set columns before k c b (omega (arith, long, within)) refl (omega (arith, l, long, low)) (λ j less same. are.once j k (omega (arith, less, long)) (omega (arith, within)) same))
      ∙ take_more_set (by_variable columns before) k b (omega (arith, lv, long, within))
      ∙ ap (λ (xs : List Bool). xs ++ b ∷ []) (written-read w wide k (omega (arith, within)))
      ∙ sym (take_more w k false (omega (arith, wide, within)))
      ∙ ap (λ m. take m w) (let e : k + 1 ≡ suc k = omega arith in e)

  pub variables-back : (w : List Bool) → length w ≡ n → by_variable columns (by_column columns w) ≡ w
  unfolding by_column
  variables-back w wide =
      grind (arith, length-by_variable columns (written columns w (length columns)), take_all (length columns) (by_variable columns (written columns w (length columns))), written-read w wide (length columns), take_all (length columns) w)

  -- ---- each column has a variable

  distinct : IsDistinct eqb columns
  distinct = IsDistinct-from_apart eqb columns (λ i j d less within. by i j d less within)
    where
      by : (i j d : ℕ) → i < j → j < length columns → eqb (get_or columns i d) (get_or columns j d) ≡ false
      by i j d less within = grind (arith, ne_eqb (get_or columns i d) (get_or columns j d), get_or_default columns i 0 d, get_or_default columns j d 0 within)

  pub variable_of : (c : ℕ) → c < n → IsVariableOf n columns c
  unfolding IsDistinct
  variable_of c less = elim (cases_Bool (list_any (eqb c) columns)) [
    | inl there ↦
        let found : Contains columns c = Contains-from_any {eq = eqb} eqb-true c columns there in
        let long = are.long in
        let within = found.1 in
        record { number = found.0; within = omega (arith, long, within); is = get_or_default columns found.0 0 c within ∙ found.2 }
    | inr none ↦
        let more : List ℕ = columns ++ c ∷ [] in
        let most : length more ≤ n = length-le_from_distinct_below more n (IsDistinct-push nat_eq_equiv columns c distinct none)
        (λ q is. All-contains (λ s. s < n) more q (All-push (λ s. s < n) columns c low less) (Contains-from_any {eq = eqb} eqb-true q more is)) in
        absurd (omega (arith, most, are.long, length_push columns c))
  ]
    where
      low : All (λ s. s < n) columns
      low k d inside = rw (get_or_default columns k d 0 inside) (are.within k (omega (arith, inside, are.long)))

  pub columns-back : (v : List Bool) → length v ≡ n → by_column columns (by_variable columns v) ≡ v
  columns-back v wide =
      let u : List Bool = by_column columns (by_variable columns v) in
      let long = are.long in
      let lu = length-by_column columns (by_variable columns v) in
      let lv = length-by_variable columns v in
      ext_get_or false u v (omega (arith, lu, long, wide)) (λ c less.
      let x = variable_of c (omega (arith, less, lu, long)) in
      let within = x.within in
      let inside : x.number < length columns = omega (arith, within, long) in
      ap (λ i. get_or u i false) (sym x.is)
      ∙ sym (by_variable-read columns u x.number inside)
      ∙ ap (λ (w : List Bool). get_or w x.number false) (variables-back (by_variable columns v) (omega (arith, lv, long)))
      ∙ by_variable-read columns v x.number inside
      ∙ ap (λ i. get_or v i false) x.is)
