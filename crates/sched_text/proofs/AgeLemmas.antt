-- Ages, word by word.
use Rattle.std.proofs.Common.{◌≡◌, ◌≤◌, ◌<◌, ℕ, suc, ◌+◌, true, false, List, [], ◌∷◌, ◌++◌, length, drop, map, slice_index_or, Some, None, refl, sym, ap, ◌∙◌, add-one, drop_of_length-le, arith}
use Rattle.sched_text.proofs.Common.{list_all, drop-cons, number}
use Rattle.std.proofs.lemmas.List.{append-nil, append_assoc}
use Rattle.sched_text.specs.Numbers.{number_of}
use Rattle.sched_text.specs.LineFaults.{is_age}

-- the ages up to a word, and what is said of the words from there on
pub record AgesAt (words : List (List ℕ)) (ages : List ℕ) (k : ℕ) : Type 0 where
  pub all : list_all is_age (drop 2 words) ≡ list_all is_age (drop k words)
  pub are : map number_of (drop 2 words) ≡ ages ++ map number_of (drop k words)

pub ages_next : (words : List (List ℕ)) (ages now : List ℕ) (k age : ℕ) → AgesAt words ages k → k < length words
    → number (slice_index_or words k []) ≡ Some age → now ≡ ages ++ age ∷ [] → AgesAt words now (k + 1)
ages_next words ages now k age at inside is more = grind (arith, drop-cons words k [] inside, add-one k, append_assoc ages (age ∷ []) (map number_of (drop (suc k) words)))

pub ages_fault : (words : List (List ℕ)) (ages : List ℕ) (k : ℕ) → AgesAt words ages k → k < length words
    → number (slice_index_or words k []) ≡ None → list_all is_age (drop 2 words) ≡ false
ages_fault words ages k at inside is = at.all ∙ rw (drop-cons words k [] inside, is) refl

pub ages_good : (words : List (List ℕ)) (ages : List ℕ) (k : ℕ) → AgesAt words ages k → length words ≤ k → list_all is_age (drop 2 words) ≡ true
ages_good words ages k at over = at.all ∙ ap (list_all is_age) (drop_of_length-le words over)

pub ages_end : (words : List (List ℕ)) (ages : List ℕ) (k : ℕ) → AgesAt words ages k → length words ≤ k → ages ≡ map number_of (drop 2 words)
ages_end words ages k at over = sym (at.are ∙ rw (drop_of_length-le words over) (append-nil ages))
