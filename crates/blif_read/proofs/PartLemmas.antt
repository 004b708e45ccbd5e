-- The pairs of a `.subckt` line.
use Rattle.std.proofs.Common.{◌≡◌, ℕ, suc, ◌+◌, ◌<◌, ◌≤◌, List, [], ◌∷◌, ◌++◌, drop, length, get_or, true, refl, ap, ◌∙◌, arith, drop_of_length-le, map}
use Rattle.blif_read.proofs.Common.{slice_range, ◌&&◌, list_all, drop-cons, is_pair, pair_of}
use Rattle.blif_read.proofs.WordLemmas.{slice_more, slice_none, slice_rest}
use Rattle.std.proofs.lemmas.List.{map_push}

pub pairs_more : (words : List (List ℕ)) (k : ℕ) → k < length words
    → list_all is_pair (drop k words) ≡ (is_pair (get_or words k []) && list_all is_pair (drop (k + 1) words))
pairs_more words k inside =
    let e : suc k ≡ k + 1 = omega arith in
    grind (arith, drop-cons words k [] inside)

pub pairs_end : (words : List (List ℕ)) (k : ℕ) → length words ≤ k → list_all is_pair (drop k words) ≡ true
pairs_end words k over = ap (list_all is_pair) (drop_of_length-le words over)

pub pair_next : (words : List (List ℕ)) (k : ℕ) → 2 ≤ k → k < length words
    → map pair_of (slice_range words 2 (k + 1)) ≡ map pair_of (slice_range words 2 k) ++ pair_of (get_or words k []) ∷ []
pair_next words k low high = grind (arith, slice_more words 2 k [] low high, map_push pair_of (slice_range words 2 k) (get_or words k []))

pub pair_none : (words : List (List ℕ)) → map pair_of (slice_range words 2 2) ≡ []
pair_none words = ap (map pair_of) (slice_none words 2)

drop_two : (words : List (List ℕ)) → drop 2 words ≡ drop 1 (drop 1 words)
drop_two [] = refl
drop_two (a ∷ []) = refl
drop_two (a ∷ b ∷ more) = refl

pub pair_all : (words : List (List ℕ)) (k : ℕ) → k ≡ length words → map pair_of (slice_range words 2 k) ≡ map pair_of (drop 1 (drop 1 words))
pair_all words k is = ap (map pair_of) (slice_rest words 2 k is ∙ drop_two words)
