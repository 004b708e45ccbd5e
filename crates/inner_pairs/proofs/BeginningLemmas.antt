-- The values that the least care vector begins with on which some pair is apart.
use Rattle.std.proofs.Common.{◌≡◌, ◌<◌, ◌≤◌, ◌++◌, ◌∷◌, ◌&&◌, [], ℕ, Bool, true, false, List, length, take, get_or, Some, refl, sym, ap, ap₂, subst, ◌∙◌, arith, true≢false}
use Rattle.inner_pairs.proofs.Common.{length-append, get_or-take, length-take-le, take_more, length-map-range_with_len, get_or-map-range_with_len, columns, CareSet, is_care_vector, care_vector_decides, find-filter, Parts, Pair, some_is_apart, least_apart, vectors}
use Rattle.std.proofs.lemmas.Bool.{and_parts}
use Rattle.std.proofs.lemmas.List.{take_all}
use Rattle.cyc_base.specs.Vectors.{AtMost}
use Rattle.clause_pairs.specs.declared.pairs.Fixed.{Fixed}
use Rattle.clause_pairs.specs.Apart.{HasFixed, IsCubeOf, IsInCube, AreNeverApartIn}
use Rattle.clause_queries.proofs.VectorLemmas.{AtMost-push, find_least}
use Rattle.inner_pairs.specs.declared.cases.JoinedPairs.{JoinedPairs}
use Rattle.inner_pairs.specs.Cases.{ArePaired}
use Rattle.inner_pairs.specs.Beginnings.{cube_of, IsLeastBeginning, IsNextValue, IsApartAt}
use Rattle.inner_pairs.proofs.CaseLemmas.{fixed_at}

-- a vector that begins with some values is in the cube of them
in_cube : (values w : List Bool) → take (length values) w ≡ values → IsInCube (cube_of values) w
in_cube values w begins k d l =
    let n = length values in
    let f : ℕ → Fixed = λ column. fixed_at column (get_or values column false) in
    let m = length-map-range_with_len f 0 n in
    let less : k < n = omega (arith, l, m) in
    subst (HasFixed w) (sym (get_or-map-range_with_len f 0 n k k d (omega arith) (omega (arith, less))))
    (sym (get_or-take n w k false less) ∙ ap (λ xs. get_or xs k false) begins)

-- and what it fixes are columns
pub cube_within : (net : Parts) (values : List Bool) → length values ≤ columns net → IsCubeOf net (cube_of values)
cube_within net values within k d l =
    let n = length values in
    let f : ℕ → Fixed = λ column. fixed_at column (get_or values column false) in
    let m = length-map-range_with_len f 0 n in
    let less : k < n = omega (arith, l, m) in
    subst (λ (fixed : Fixed). fixed.column < columns net) (sym (get_or-map-range_with_len f 0 n k k d (omega arith) (omega (arith, less)))) (omega (arith, less, within))

-- pairs of the joined netlist, whose columns have numbers
pub columns_fit : (j : JoinedPairs) → ArePaired j → columns j.looped.now.net ≤ 4294967295
columns_fit j paired =
    let fits = paired.fits in
    subst (λ (net : Parts). columns net ≤ 4294967295) (sym paired.joined_is) (omega (arith, fits))

module _ (net : Parts) (care : CareSet) (pairs : List Pair) where
  -- a vector that begins with at least these values does so with one more, if that isn't 1 where it goes on with 0
  goes_on : (values w : List Bool) (b : Bool) → length values < length w → AtMost values (take (length values) w) →
      (values ≡ take (length values) w → b ≡ true → get_or w (length values) false ≡ true) → AtMost (values ++ b ∷ []) (take (length (values ++ b ∷ [])) w)
  goes_on values w b less below tied =
      let k = length values in
      subst (AtMost (values ++ b ∷ []))
      (sym (ap (λ n. take n w) (length-append values (b ∷ [])) ∙ take_more w k false less))
      (AtMost-push values (take k w) b (get_or w k false) (sym (length-take-le k w (omega (arith, less)))) below tied)

  pub next_low : (values : List Bool) → length values < columns net → IsNextValue net care pairs values false
  next_low values less least w counts apart =
      let wide = counts.width in
      goes_on values w false (omega (arith, less, wide)) (least w counts apart) (λ same e. absurd (true≢false (sym e)))

  pub next_high : (values : List Bool) → length values < columns net → AreNeverApartIn net care (cube_of (values ++ false ∷ [])) pairs → IsNextValue net care pairs values true
  next_high values less never least w counts apart =
      let wide = counts.width in
      let long : length values < length w = omega (arith, less, wide) in
      goes_on values w true long (least w counts apart) (λ same e. by long same (get_or w (length values) false) refl)
    where
      by : length values < length w → values ≡ take (length values) w → (b : Bool) → get_or w (length values) false ≡ b → b ≡ true
      by long same true is = refl
      by long same false is =
          absurd (true≢false (
          sym apart
          ∙ never w counts (in_cube (values ++ false ∷ []) w (
          ap (λ n. take n w) (length-append values (false ∷ []))
          ∙ take_more w (length values) false long
          ∙ ap₂ (λ (xs : List Bool) (x : Bool). xs ++ x ∷ []) (sym same) is))))

  -- so at the last column it is the least, if it is one
  pub least_is : (v : List Bool) → length v ≡ columns net → IsLeastBeginning net care pairs v → IsApartAt net care pairs v → least_apart net care pairs ≡ Some v
  least_is v wide least is =
      find-filter (some_is_apart net pairs) (is_care_vector net care) (vectors (columns net))
      ∙ find_least (columns net) (λ w. is_care_vector net care w && some_is_apart net pairs w) v wide (ap₂ (λ s t. s && t) is.counts is.apart)
      (λ w long passes.
      let both = and_parts (is_care_vector net care w) (some_is_apart net pairs w) passes in
      subst (AtMost v) (take_all (length v) w (omega (arith, wide, long))) (least w (care_vector_decides net care w long both.0) both.1))
