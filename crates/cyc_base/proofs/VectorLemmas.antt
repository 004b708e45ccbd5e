-- Lemmas of the vectors in lexicographic order.
use Rattle.std.proofs.Common.{◌≡◌, ℕ, zero, suc, ◌+◌, ◌^◌, ◌≤◌, Bool, true, false, cond, List, [], ◌∷◌, length, map, Contains, Option, Some, None, refl, ap, arith}
use Rattle.std.specs.Prelude.{find, option_map}
use Rattle.std.specs.Option.{option_or}
use Rattle.std.proofs.Math.Nat.{pow-suc}
use Rattle.std.proofs.lemmas.List.Elements.{Contains-append_left, Contains-append_right}
use Rattle.std.proofs.lemmas.List.Folds.{find-append}
use Rattle.cyc_base.specs.Vectors.{vectors}
use Rattle.cyc_base.proofs.ListLemmas.{Contains-here, Contains-map, find-map}

pub more_vectors : (n : ℕ) → n + 1 ≤ 2 ^ n
more_vectors zero = omega arith
more_vectors (suc n) = let rest = more_vectors n in omega (arith, rest, pow-suc 2 n)

pub Contains-vectors : (n : ℕ) (v : List Bool) → length v ≡ n → Contains (vectors n) v
Contains-vectors zero [] h = Contains-here [] []
Contains-vectors zero (b ∷ v) h = absurd (omega arith)
Contains-vectors (suc n) [] h = absurd (omega arith)
Contains-vectors (suc n) (false ∷ v) h = Contains-append_left (map (λ w. false ∷ w) (vectors n)) (map (λ w. true ∷ w) (vectors n)) (false ∷ v) (Contains-map (λ w. false ∷ w) (vectors n) v (Contains-vectors n v (omega arith)))
Contains-vectors (suc n) (true ∷ v) h = Contains-append_right (map (λ w. false ∷ w) (vectors n)) (map (λ w. true ∷ w) (vectors n)) (true ∷ v) (Contains-map (λ w. true ∷ w) (vectors n) v (Contains-vectors n v (omega arith)))

-- a search among all vectors goes through those that begin with 0, and then through the others
pub find-halves : (n : ℕ) (p : List Bool → Bool) →
    find p (vectors (suc n)) ≡ option_or (option_map (λ v. false ∷ v) (find (λ v. p (false ∷ v)) (vectors n))) (option_map (λ v. true ∷ v) (find (λ v. p (true ∷ v)) (vectors n)))
find-halves n p = grind (arith, find-append, find-map)

pub find-none : (n : ℕ) (p : List Bool → Bool) → ((w : List Bool) → length w ≡ n → p w ≡ false) → find p (vectors n) ≡ None
find-none zero p fails = ap (λ t. let nothing : Option (List Bool) = None in cond t (Some []) nothing) (fails [] refl)
find-none (suc n) p fails = grind (arith, find-halves, find-none n)

pub find-alike : (n : ℕ) (f g : List Bool → Bool) → ((v : List Bool) → length v ≡ n → f v ≡ g v) → find f (vectors n) ≡ find g (vectors n)
find-alike zero f g same = ap (λ t. let nothing : Option (List Bool) = None in cond t (Some []) nothing) (same [] refl)
find-alike (suc n) f g same = grind (arith, find-halves, find-alike n)
