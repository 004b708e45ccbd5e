-- Words between two places.
use Rattle.std.proofs.Common.{◌≡◌, ℕ, ◌+◌, ◌-◌, ◌<◌, ◌≤◌, List, [], length, get_or, arith, length-take, length-drop, get_or-take, get_or-drop}
use Rattle.std.specs.Prelude.{slice_range}

pub words_between : (parts : List (List ℕ)) (start end : ℕ) → start ≤ end → end ≤ length parts → length (slice_range parts start end) ≡ end - start
words_between parts start end low high = simp (length-take, length-drop) (omega arith)

pub word_inside : (parts : List (List ℕ)) (start end k : ℕ) → start ≤ end → end ≤ length parts → k < length (slice_range parts start end) → start + k < length parts
word_inside parts start end k low high here = let count = words_between parts start end low high in omega (arith, count, here)

pub word_between : (parts : List (List ℕ)) (start end k : ℕ) → start ≤ end → end ≤ length parts → k < length (slice_range parts start end)
    → get_or (slice_range parts start end) k [] ≡ get_or parts (start + k) []
word_between parts start end k low high here = grind (arith, words_between, get_or-take, get_or-drop)
