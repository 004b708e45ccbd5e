-- Facts of the items of two lists, place by place.
use Rattle.std.proofs.Common.{◌≡◌, ◌<◌, ◌+◌, ℕ, List, [], ◌∷◌, ◌++◌, length, take, drop, get_or, set, ap, sym, ◌∙◌, arith}
use Rattle.std.specs.Prelude.{OnErr, IfErr}
use Rattle.std.specs.declared.result.Result.{Result}
use Rattle.std.specs.List.{AllZip}
use Rattle.std.proofs.lemmas.List.{take_more, take_more_set, drop_more, drop-set-lt, length-drop, take-append-drop}
use Rattle.std.proofs.lemmas.List.Elements.{AllZip-push}

pub zip_same : {P : Type 0} (R : P → P → Type 0) → ((x : P) → R x x) → (xs : List P) → AllZip R xs xs
zip_same R same [] = tt
zip_same R same (x ∷ xs) = (same x, zip_same R same xs)

pub zip_append : {P : Type 0} (R : P → P → Type 0) (xs ys us vs : List P) → AllZip R xs ys → AllZip R us vs → AllZip R (xs ++ us) (ys ++ vs)
zip_append R [] [] us vs first second = second
zip_append R [] (y ∷ ys) us vs first second = absurd first
zip_append R (x ∷ xs) [] us vs first second = absurd first
zip_append R (x ∷ xs) (y ∷ ys) us vs first second = (first.0, zip_append R xs ys us vs first.1 second)

pub zip_as : {P : Type 0} (R S : P → P → Type 0) → ((x y : P) → R x y → S x y) → (xs ys : List P) → AllZip R xs ys → AllZip S xs ys
zip_as R S each [] [] all = tt
zip_as R S each [] (y ∷ ys) all = absurd all
zip_as R S each (x ∷ xs) [] all = absurd all
zip_as R S each (x ∷ xs) (y ∷ ys) all = (each x y all.0, zip_as R S each xs ys all.1)

-- a list of which the first i items were changed, and the others stay
module _ {P : Type 0} (old now : List P) (i : ℕ) (default new : P) (left : drop i now ≡ drop i old) (short : i < length old) where
  as_short : i < length now
  as_short = omega (arith, ap (λ (xs : List P). length xs) left, length-drop i now, length-drop i old)

  was : drop i old ≡ get_or now i default ∷ drop (i + 1) now
  was = sym left ∙ drop_more now i default as_short

  read : get_or old i default ≡ get_or now i default
  read = ap (λ (xs : List P). get_or xs 0 default) (sym (drop_more old i default short) ∙ was)

  tail : drop (i + 1) now ≡ drop (i + 1) old
  tail = ap (λ (xs : List P). drop 1 xs) (sym was ∙ drop_more old i default short)

  pub left_more : drop (i + 1) (set now i new) ≡ drop (i + 1) old
  left_more = drop-set-lt (i + 1) now i new (omega arith) ∙ tail

  pub changed_more : (R : P → P → Type 0) → AllZip R (take i old) (take i now) → R (get_or now i default) new → AllZip R (take (i + 1) old) (take (i + 1) (set now i new))
  changed_more R before here = grind (arith, take_more old i default short, read, take_more_set now i new as_short, as_short, AllZip-push R (take i old) (take i now) (get_or now i default) new before here)

  -- so the whole list is, as far as each item that stays is
  pub changed_whole : (R : P → P → Type 0) → ((x : P) → R x x) → AllZip R (take i old) (take i now) → R (get_or now i default) new → AllZip R old (set now i new)
  changed_whole R same before here =
      let joined : AllZip R (take (i + 1) old ++ drop (i + 1) old) (take (i + 1) (set now i new) ++ drop (i + 1) (set now i new)) =
      rw left_more
      (zip_append R (take (i + 1) old) (take (i + 1) (set now i new)) (drop (i + 1) old) (drop (i + 1) old)
      (changed_more R before here) (zip_same R same (drop (i + 1) old))) in
      rw (take-append-drop (i + 1) old, take-append-drop (i + 1) (set now i new)) at joined

pub on_err : {T E P : Type 0} (r : Result T E) → P → OnErr r P
on_err r p = grind arith

pub each_err : {T E : Type 0} (r : Result T E) (P : E → Type 0) → ((e : E) → P e) → IfErr r P
each_err r P each = grind arith
