-- The first of all vectors that passes a test.
use Rattle.std.proofs.Common.{◌≡◌, ℕ, zero, suc, Bool, true, false, not, ◌&&◌, List, [], ◌∷◌, length, Option, Some, None, refl, sym, ◌∙◌, arith, true≢false}
use Rattle.std.specs.Prelude.{find, filter, is_none}
use Rattle.std.specs.List.{list_any}
use Rattle.std.specs.Option.{option_or, option_map}
use Rattle.std.proofs.lemmas.Option.{same_Some}
use Rattle.refusals.specs.Refusals.{is_empty}
use Rattle.cyc_base.specs.Vectors.{vectors, AtMost}
use Rattle.cyc_base.proofs.VectorLemmas.{find-halves}

-- a list of those that pass another test
pub find-filter : {X : Type 0} (p q : X → Bool) (xs : List X) → find p (filter q xs) ≡ find (λ x. q x && p x) xs
find-filter p q [] = refl
find-filter p q (x ∷ xs) = grind (arith, find-filter p q xs)

pub empty-filter : {X : Type 0} (q : X → Bool) (xs : List X) → is_empty (filter q xs) ≡ is_none (find q xs)
empty-filter q [] = refl
empty-filter q (x ∷ xs) = grind (arith, empty-filter q xs)

pub any-find : {X : Type 0} (p : X → Bool) (xs : List X) → list_any p xs ≡ not (is_none (find p xs))
any-find p [] = refl
any-find p (x ∷ xs) = grind (arith, any-find p xs)

pub found_passes : {X : Type 0} (p : X → Bool) (xs : List X) (x : X) → find p xs ≡ Some x → p x ≡ true
found_passes p [] x is = cc
found_passes p (y ∷ xs) x is = grind (arith, found_passes p xs x, same_Some)

-- what a part of a vector finds
data Halves (n : ℕ) (p : List Bool → Bool) (v : List Bool) : Type 0 where
  Low : (u : List Bool) → v ≡ false ∷ u → find (λ w. p (false ∷ w)) (vectors n) ≡ Some u → Halves n p v
  High : (u : List Bool) → v ≡ true ∷ u → find (λ w. p (false ∷ w)) (vectors n) ≡ None → find (λ w. p (true ∷ w)) (vectors n) ≡ Some u → Halves n p v

in_half : (n : ℕ) (p : List Bool → Bool) (v : List Bool) → find p (vectors (suc n)) ≡ Some v → Halves n p v
in_half n p v is =
    by_low (find (λ w. p (false ∷ w)) (vectors n)) refl (find (λ w. p (true ∷ w)) (vectors n)) refl (sym (find-halves n p) ∙ is)
  where
    by_low : (low : Option (List Bool)) → find (λ w. p (false ∷ w)) (vectors n) ≡ low → (high : Option (List Bool)) → find (λ w. p (true ∷ w)) (vectors n) ≡ high →
        option_or (option_map (λ u. false ∷ u) low) (option_map (λ u. true ∷ u) high) ≡ Some v → Halves n p v
    by_low (Some u) low_is high high_is e = Low u (sym (same_Some (false ∷ u) v e)) low_is
    by_low None low_is (Some u) high_is e = High u (sym (same_Some (true ∷ u) v e)) low_is high_is
    by_low None low_is None high_is e = cc

data NoHalf (n : ℕ) (p : List Bool → Bool) : Type 0 where
  Neither : find (λ w. p (false ∷ w)) (vectors n) ≡ None → find (λ w. p (true ∷ w)) (vectors n) ≡ None → NoHalf n p

in_no_half : (n : ℕ) (p : List Bool → Bool) → find p (vectors (suc n)) ≡ None → NoHalf n p
in_no_half n p is = grind (arith, find-halves)

-- where none is found, each fails
pub none_passes : (n : ℕ) (p : List Bool → Bool) (w : List Bool) → find p (vectors n) ≡ None → length w ≡ n → p w ≡ false
none_passes zero p [] is wide = grind arith
none_passes zero p (b ∷ w) is wide = absurd (omega arith)
none_passes (suc n) p [] is wide = absurd (omega arith)
none_passes (suc n) p (b ∷ w) is wide = grind (arith, none_passes n, in_no_half n p is)

-- what is found has the width
pub found_wide : (n : ℕ) (p : List Bool → Bool) (v : List Bool) → find p (vectors n) ≡ Some v → length v ≡ n
found_wide zero p v is = grind arith
found_wide (suc n) p v is = grind (arith, found_wide n, in_half)

-- and is at most each vector that passes
pub found_least : (n : ℕ) (p : List Bool → Bool) (v w : List Bool) → find p (vectors n) ≡ Some v → length w ≡ n → p w ≡ true → AtMost v w
found_least zero p [] w is wide passes = tt
found_least zero p (b ∷ v) w is wide passes = absurd (omega (arith, found_wide zero p (b ∷ v) is))
found_least (suc n) p v [] is wide passes = absurd (omega arith)
found_least (suc n) p v (b ∷ w) is wide passes = grind (arith, found_least n, in_half, true≢false, none_passes)
