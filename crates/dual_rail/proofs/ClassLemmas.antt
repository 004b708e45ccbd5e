-- Classes of rows that agree from a pin on.
use Rattle.std.proofs.Common.{◌≡◌, ℕ, zero, suc, ◌+◌, ◌-◌, ◌<◌, ◌⊎◌, inl, inr, List, [], ◌∷◌, ◌++◌, length, drop, replicate, get_or, map, Some, None, refl, sym, ap, subst, ◌∙◌, arith, add-one}
use Rattle.dual_rail.proofs.Common.{cases_lt, get_or_append_left, length_push, All-get_or, All, Lit, Any, Row, lits_of, matches_from, MatchAlike}
use Rattle.std.proofs.lemmas.List.{drop_all, get_or-drop, get_or_past, get_or_push, get_or-replicate, length-replicate}
use Rattle.std.proofs.lemmas.Option.{none-some, same_Some}
use Rattle.dual_rail.specs.declared.classes.Firsts.{Firsts}
use Rattle.dual_rail.specs.declared.classes.Classes.{Classes}
use Rattle.dual_rail.specs.Expansion.{literal, suffix}
use Rattle.dual_rail.specs.Classes.{number, AreClasses, classes_at, class_of, AreClassesOf, AreClassesBack, first_in, AreNumbered}
use Rattle.dual_rail.proofs.LiveLemmas.{any_map}

-- ---- suffixes

-- a suffix is a literal and the next suffix
suffix_same : (lits others : List Lit) (pin : ℕ) → pin < length lits → pin < length others → get_or lits pin Any ≡ get_or others pin Any → drop (suc pin) lits ≡ drop (suc pin) others → drop pin lits ≡ drop pin others
suffix_same [] others pin h k l e = absurd (omega arith)
suffix_same (x ∷ lits) [] pin h k l e = absurd (omega arith)
suffix_same (x ∷ lits) (y ∷ others) zero h k l e = λ j. l j ∷ e j
suffix_same (x ∷ lits) (y ∷ others) (suc pin) h k l e = suffix_same lits others pin (omega arith) (omega arith) l e

suffix_literal : (lits : List Lit) (pin : ℕ) → get_or lits pin Any ≡ get_or (drop pin lits) 0 Any
suffix_literal lits pin = let at : pin ≡ pin + 0 = omega arith in ap (λ n. get_or lits n Any) at ∙ sym (get_or-drop pin lits 0 Any)

suffix_next : (lits : List Lit) (pin : ℕ) → drop (suc pin) lits ≡ drop 1 (drop pin lits)
suffix_next [] zero = refl
suffix_next [] (suc pin) = refl
suffix_next (l ∷ lits) zero = refl
suffix_next (l ∷ lits) (suc pin) = suffix_next lits pin

literal_of : (rows : List Row) (row other pin : ℕ) → suffix rows pin row ≡ suffix rows pin other → literal rows row pin ≡ literal rows other pin
literal_of rows row other pin e = suffix_literal (lits_of rows row) pin ∙ ap (λ l. get_or l 0 Any) e ∙ sym (suffix_literal (lits_of rows other) pin)

rest_of : (rows : List Row) (row other pin : ℕ) → suffix rows pin row ≡ suffix rows pin other → suffix rows (pin + 1) row ≡ suffix rows (pin + 1) other
rest_of rows row other pin e = grind (arith, add-one pin, suffix_next (lits_of rows row) pin, suffix_next (lits_of rows other) pin)

-- ---- one pin

lits_in : (rows : List Row) (row : ℕ) (d : Row) → row < length rows → lits_of rows row ≡ (get_or rows row d).lits
lits_in [] row d less = absurd (omega (arith, less))
lits_in (r ∷ rows) zero d less = refl
lits_in (r ∷ rows) (suc row) d less = lits_in rows row d (omega (arith, less))

long : (rows : List Row) (pin row : ℕ) → All (λ (r : Row). pin < length r.lits) rows → row < length rows → pin < length (lits_of rows row)
long rows pin row wide less =
    subst (λ l. pin < length l) (sym (lits_in rows row (record { lits = [] }) less)) (All-get_or (λ (r : Row). pin < length r.lits) rows row (record { lits = [] }) less wide)

module _ {rows : List Row} {pin : ℕ} {rests : List ℕ} {firsts : List Firsts} {numbers : List ℕ} (named : AreNumbered rows pin rests firsts numbers) (all : length numbers ≡ length rows) (wide : All (λ (r : Row). pin < length r.lits) rows) (are : AreClasses rows (pin + 1) rests) where
  -- a row's number is that of a row with its literal and its class at the next pin
  met : (row : ℕ) → row < length rows → (number numbers row < length rows) × (number rests (number numbers row) ≡ number rests row) × (literal rows (number numbers row) pin ≡ literal rows row pin)
  met row less =
      let at = named.each_first (number rests row) (literal rows row pin) (number numbers row) (named.each_number row (omega (arith, all, less))) in
      (omega (arith, at.0, all), at.1, at.2)

  agrees : (row : ℕ) → row < length rows → suffix rows pin (number numbers row) ≡ suffix rows pin row
  agrees row less = grind (arith, met row less, suffix_same (lits_of rows (number numbers row)) (lits_of rows row) pin, long rows pin (number numbers row) wide, long rows pin row wide less, add-one pin)

  one : (row other : ℕ) → row < length rows → other < length rows → suffix rows pin row ≡ suffix rows pin other → number numbers row ≡ number numbers other
  one row other less below e = grind (arith, same_Some (number numbers row) (number numbers other), rest_of rows row other pin e, literal_of rows row other pin e)

  pub AreClasses-numbered : AreClasses rows pin numbers
  AreClasses-numbered = record { each = all; member = λ row less. (met row less).0; agrees = agrees; one = one }

-- one more row has a number
module _ {rows : List Row} {pin : ℕ} {rests : List ℕ} {firsts : List Firsts} {numbers : List ℕ} {row rest result : ℕ} {lit : Lit} (new : List Firsts) (named : AreNumbered rows pin rests firsts numbers) (here : length numbers ≡ row)
    (at_rest : rest ≡ number rests row) (at_lit : lit ≡ literal rows row pin)
    (found : (first_in firsts rest lit ≡ Some result) ⊎ ((first_in firsts rest lit ≡ None) × (result ≡ row)))
    (same : first_in new rest lit ≡ Some result)
    (others : (class : ℕ) (other : Lit) → (first_in new class other ≡ first_in firsts class other) ⊎ ((class ≡ rest) × (other ≡ lit)))
  where
    is_first : (result < row + 1) × (number rests result ≡ rest) × (literal rows result pin ≡ lit)
    is_first = elim found [
      | inl old ↦ let at = named.each_first rest lit result old in (omega (arith, at.0, here), at.1, at.2)
      | inr made ↦ (omega (arith, made.1), (λ j. number rests (made.1 j)) ∙ sym at_rest, (λ j. literal rows (made.1 j) pin) ∙ sym at_lit)
    ]

    each_first : (class : ℕ) (other : Lit) (first : ℕ) → first_in new class other ≡ Some first → (first < length (numbers ++ result ∷ [])) × (number rests first ≡ class) × (literal rows first pin ≡ other)
    each_first class other first e = elim (others class other) [
      | inl kept ↦ let at = named.each_first class other first (sym kept ∙ e) in (omega (arith, at.0, length_push numbers result), at.1, at.2)
      | inr is ↦
          let it : result ≡ first = same_Some result first (sym same ∙ (λ j. first_in new (sym is.0 j) (sym is.1 j)) ∙ e) in
          (omega (arith, is_first.0, it, here, length_push numbers result), (λ j. number rests (sym it j)) ∙ is_first.1 ∙ sym is.0, (λ j. literal rows (sym it j) pin) ∙ is_first.2 ∙ sym is.1)
    ]

    earlier : (r : ℕ) → r < length numbers → first_in new (number rests r) (literal rows r pin) ≡ Some (number (numbers ++ result ∷ []) r)
    earlier r less = grind (arith, get_or_append_left numbers (result ∷ []) r r less, same_Some result (number numbers r), none-some (number numbers r))

    each_number : (r : ℕ) → r < length (numbers ++ result ∷ []) → first_in new (number rests r) (literal rows r pin) ≡ Some (number (numbers ++ result ∷ []) r)
    each_number r less = grind (arith, cases_lt r (length numbers), earlier r, length_push numbers result, get_or_push numbers result r r)

    pub AreNumbered-more : AreNumbered rows pin rests new (numbers ++ result ∷ [])
    AreNumbered-more = record { each_first = each_first; each_number = each_number }

-- ---- all pins

pub class_suffix : (rows : List Row) (classes : Classes) → AreClassesOf rows classes → (pin row : ℕ) → suffix rows pin (class_of classes pin row) ≡ suffix rows pin row
class_suffix rows classes are pin row = grind (arith, cases_lt pin (length classes.at_pins.items), cases_lt row (length rows), get_or_past (classes_at classes pin) row row, get_or_past classes.at_pins.items pin [])

-- rows match as their classes do
pub MatchAlike-classes : (rows : List Row) (classes : Classes) → AreClassesOf rows classes → (pin : ℕ) (xs ys : List ℕ) → ys ≡ map (class_of classes pin) xs → MatchAlike rows pin ys xs
MatchAlike-classes rows classes are pin xs ys is bits = grind (arith, any_map (matches_from rows pin bits) (class_of classes pin) xs, class_suffix rows classes are pin)

-- nothing is left of a row at its end
ended_row : (rows : List Row) (pins row : ℕ) → All (λ (r : Row). length r.lits ≡ pins) rows → row < length rows → suffix rows pins row ≡ []
ended_row rows pins row width less =
    drop_all pins (lits_of rows row) (omega (arith, ap length (lits_in rows row (record { lits = [] }) less), All-get_or (λ (r : Row). length r.lits ≡ pins) rows row (record { lits = [] }) less width))

AreClasses-end : (rows : List Row) (pins : ℕ) → All (λ (r : Row). length r.lits ≡ pins) rows → AreClasses rows pins (replicate (length rows) 0)
AreClasses-end rows pins width = record {
  each = length-replicate (length rows) 0;
  member = λ row less. omega (arith, less, get_or-replicate (length rows) row 0 row less);
  agrees = λ row less. ap (suffix rows pins) (get_or-replicate (length rows) row 0 row less) ∙ ended_row rows pins 0 width (omega (arith, less)) ∙ sym (ended_row rows pins row width less);
  one = λ row other less below e. get_or-replicate (length rows) row 0 row less ∙ sym (get_or-replicate (length rows) other 0 other below);
}

pub AreClassesBack-end : (rows : List Row) (pins : ℕ) (numbers : List ℕ) → All (λ (r : Row). length r.lits ≡ pins) rows → numbers ≡ replicate (length rows) 0 → AreClassesBack rows pins (numbers ∷ [])
AreClassesBack-end rows pins numbers width is zero less = grind (arith, AreClasses-end rows pins width)
AreClassesBack-end rows pins numbers width is (suc back) less = absurd (omega (arith, less))

pub AreClassesBack-more : (rows : List Row) (pins : ℕ) (classes : List (List ℕ)) (numbers : List ℕ) (back : ℕ) → length classes ≡ back + 1 → AreClassesBack rows pins classes → AreClasses rows (pins - 1 - back) numbers → AreClassesBack rows pins (classes ++ numbers ∷ [])
AreClassesBack-more rows pins classes numbers back long are more k less = grind (arith, cases_lt k (length classes), get_or_append_left classes (numbers ∷ []) [] k, length_push classes numbers, get_or_push classes numbers [] k)
