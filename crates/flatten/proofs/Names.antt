-- Equality of names, and one more item of a list.
use Rattle.std.proofs.Common.{◌≡◌, ℕ, ◌+◌, ◌<◌, true, List, ◌∷◌, [], ◌++◌, length, get_or, take, map, refl, sym, ap, ◌∙◌, Bool, false, ◌||◌, arith}
use Rattle.flatten.proofs.Common.{bytes_eq, bytes_eq-true}
use Rattle.std.proofs.lemmas.List.{take_more, map-append}
use Rattle.std.proofs.lemmas.Slice.Eq.{bytes_eq-Decides}
use Rattle.cyc_base.proofs.TruthLemmas.{same_truth}

pub bytes_refl : (xs : List ℕ) → bytes_eq xs xs ≡ true
bytes_refl xs = (bytes_eq-Decides xs xs).1 refl

pub bytes_sym : (xs ys : List ℕ) → bytes_eq xs ys ≡ bytes_eq ys xs
bytes_sym xs ys = grind (arith, same_truth (bytes_eq xs ys) (bytes_eq ys xs), bytes_eq-Decides ys xs, bytes_eq-true xs ys, bytes_eq-Decides xs ys, bytes_eq-true ys xs)

pub taken : {A : Type 0} (xs : List A) (i : ℕ) (x : A) → i < length xs → x ≡ get_or xs i x → take (i + 1) xs ≡ take i xs ++ x ∷ []
taken xs i x l e = take_more xs i x l ∙ ap (λ y. take i xs ++ y ∷ []) (sym e)

-- one more item of a list that is mapped
pub mapped_next : {A B : Type 0} (f : A → B) (xs : List A) (i : ℕ) (x : A) (old new : List B) → i < length xs → x ≡ get_or xs i x → old ≡ map f (take i xs) → new ≡ old ++ f x ∷ [] → new ≡ map f (take (i + 1) xs)
mapped_next f xs i x old new l is before e = grind (arith, taken xs i x l is, map-append f (take i xs) (x ∷ []))

pub or_open : (a b : Bool) → (a || (b || false)) ≡ (b || a)
or_open a b = grind arith
