-- Bytes with the ends of their parts.
use Rattle.std.proofs.Common.{◌≡◌, ◌≢◌, ℕ, suc, zero, ◌+◌, ◌-◌, ◌<◌, ◌≤◌, List, [], ◌∷◌, ◌++◌, take, length, get_or, refl, sym, ap, ◌∙◌, arith, length-append, length-drop, drop_of_length-le}
use Rattle.std.proofs.lemmas.List.{drop-append-le}
use Rattle.std.proofs.lemmas.Grind.{common_steps}
use Rattle.std.specs.Prelude.{slice_range, ◌==◌}
use Rattle.std.proofs.lemmas.Bool.{ne_eqb}
use Rattle.blif_text.specs.WordBuffers.{last_end, parts_of, run_of, AreEnds, begins_at}
use Rattle.blif_text.specs.Texts.{without_last, ends_in_backslash}
use Rattle.blif_text.proofs.CutLemmas.{rises_bound, rises_to, rises_end, last_end_end, cut_more, cut_end, length_cut, end_before, begins_first, begins_later, cut_at, part_within}

pub are_ends_none : AreEnds [] []
are_ends_none = record { rises = omega arith }

pub parts_none : parts_of [] [] ≡ []
unfolding parts_of
parts_none = refl

pub run_none : run_of [] [] ≡ []
unfolding run_of
run_none = grind (arith, common_steps)

-- Bytes more.

pub are_ends_more : (bytes ends more : List ℕ) → AreEnds bytes ends → AreEnds (bytes ++ more) ends
are_ends_more bytes ends more are = grind (arith, rises_bound, rises_to, length-append)

pub parts_more : (bytes ends more : List ℕ) → AreEnds bytes ends → parts_of (bytes ++ more) ends ≡ parts_of bytes ends
unfolding parts_of
parts_more bytes ends more are = cut_more (λ e. e) (λ e part. part) bytes more 0 ends are.rises

pub run_more : (bytes ends more : List ℕ) → AreEnds bytes ends → run_of (bytes ++ more) ends ≡ run_of bytes ends ++ more
unfolding run_of
run_more bytes ends more are = drop-append-le (last_end (λ e. e) 0 ends) bytes more ((rises_bound (λ e. e) 0 ends (length bytes) are.rises).1)

-- A part ended.

pub are_ends_end : (bytes ends : List ℕ) (n : ℕ) → AreEnds bytes ends → n ≡ length bytes → AreEnds bytes (ends ++ n ∷ [])
are_ends_end bytes ends n are is = record { rises = rises_end (λ e. e) 0 ends n (length bytes) are.rises is }

pub parts_end : (bytes ends : List ℕ) (n : ℕ) → AreEnds bytes ends → n ≡ length bytes → parts_of bytes (ends ++ n ∷ []) ≡ parts_of bytes ends ++ run_of bytes ends ∷ []
unfolding parts_of run_of
parts_end bytes ends n are is = cut_end (λ e. e) (λ e part. part) bytes 0 ends n are.rises is

pub run_end : (bytes ends : List ℕ) (n : ℕ) → n ≡ length bytes → run_of bytes (ends ++ n ∷ []) ≡ []
unfolding run_of
run_end bytes ends n is = grind (arith, last_end_end, drop_of_length-le)

-- A byte fewer.

pub run_length : (bytes ends : List ℕ) → AreEnds bytes ends → length (run_of bytes ends) + last_end (λ e. e) 0 ends ≡ length bytes
unfolding run_of
run_length bytes ends are = grind (arith, rises_bound, length-drop)

pub some_behind : (bytes ends : List ℕ) → AreEnds bytes ends → last_end (λ e. e) 0 ends < length bytes → 0 < length (run_of bytes ends)
some_behind bytes ends are some = let size = run_length bytes ends are in omega (arith, size, some)

pub none_behind : (bytes ends : List ℕ) → AreEnds bytes ends → length bytes ≤ last_end (λ e. e) 0 ends → length (run_of bytes ends) ≡ 0
none_behind bytes ends are none = let size = run_length bytes ends are in omega (arith, size, none)

without_last_end : (xs : List ℕ) (b : ℕ) → without_last (xs ++ b ∷ []) ≡ xs
without_last_end [] b = refl
without_last_end (x ∷ []) b = refl
without_last_end (x ∷ y ∷ ys) b = ap (λ more. x ∷ more) (without_last_end (y ∷ ys) b)

pub ends_by_last : (xs : List ℕ) → 0 < length xs → ends_in_backslash xs ≡ (get_or xs (length xs - 1) 0 == 92)
ends_by_last [] some = absurd (omega arith)
ends_by_last (x ∷ []) some = refl
ends_by_last (x ∷ y ∷ ys) some =
    let e : (suc (length (y ∷ ys)) - 1) ≡ suc (length (y ∷ ys) - 1) = omega arith in
    rw e (ends_by_last (y ∷ ys) (omega arith))

split_last : (xs : List ℕ) → 0 < length xs → (front : List ℕ) × (b : ℕ) × (xs ≡ front ++ b ∷ []) × (take (length xs - 1) xs ≡ front)
split_last [] some = absurd (omega arith)
split_last (x ∷ []) some = ([], x, refl, refl)
split_last (x ∷ y ∷ ys) some =
    let more = split_last (y ∷ ys) (omega arith) in
    let e : (suc (length (y ∷ ys)) - 1) ≡ suc (length (y ∷ ys) - 1) = omega arith in
    (x ∷ more.0, more.1, ap (λ rest. x ∷ rest) more.2, rw e (ap (λ rest. x ∷ rest) more.3))

pub record Fewer (bytes fewer ends : List ℕ) : Type 0 where
  pub are : AreEnds fewer ends
  pub parts : parts_of fewer ends ≡ parts_of bytes ends
  pub run : run_of fewer ends ≡ without_last (run_of bytes ends)

pub fewer : (bytes ends : List ℕ) → AreEnds bytes ends → 0 < length (run_of bytes ends) → Fewer bytes (take (length bytes - 1) bytes) ends
fewer bytes ends are some = grind (arith, run_length, split_last, length-append, rises_to, parts_more, without_last_end, run_more)

-- The part at a place.

pub length_parts : (bytes ends : List ℕ) → length (parts_of bytes ends) ≡ length ends
unfolding parts_of
length_parts bytes ends = length_cut (λ e. e) (λ e part. part) bytes 0 ends

pub record PartAt (bytes ends : List ℕ) (k from to : ℕ) : Type 0 where
  pub low : from ≤ to
  pub high : to ≤ length bytes
  pub part : get_or (parts_of bytes ends) k [] ≡ slice_range bytes from to

begins_is : (ends : List ℕ) (k : ℕ) → k < length ends → end_before (λ e. e) 0 ends k ≡ begins_at ends k
begins_is ends zero inside = begins_first (λ e. e) 0 ends
begins_is ends (suc k) inside =
    let e : suc k - 1 ≡ k = omega arith in
    let differs : suc k ≢ 0 = omega arith in
    grind (arith, begins_later, ne_eqb (suc k) 0 differs)

pub part_at : (bytes ends : List ℕ) (k : ℕ) → AreEnds bytes ends → k < length ends → PartAt bytes ends k (begins_at ends k) (get_or ends k 0)
unfolding parts_of
part_at bytes ends k are inside = grind (arith, part_within, begins_is ends k inside, cut_at)

pub run_fits : (bytes ends : List ℕ) (from : ℕ) → AreEnds bytes ends → from ≡ last_end (λ e. e) 0 ends → from ≤ length bytes
run_fits bytes ends from are is = omega (arith, (rises_bound (λ e. e) 0 ends (length bytes) are.rises).1, is)

pub run_is : (bytes ends : List ℕ) (from : ℕ) → AreEnds bytes ends → from ≡ last_end (λ e. e) 0 ends → slice_range bytes from (length bytes) ≡ run_of bytes ends
unfolding run_of
run_is bytes ends from are is = grind (arith, length-drop, common_steps)

pub part_low : (bytes ends : List ℕ) (k from : ℕ) → AreEnds bytes ends → k < length ends → from ≡ begins_at ends k → from ≤ get_or ends k 0
part_low bytes ends k from are inside is = let at = part_at bytes ends k are inside in omega (arith, at.low, is)

pub part_high : (bytes ends : List ℕ) (k : ℕ) → AreEnds bytes ends → k < length ends → get_or ends k 0 ≤ length bytes
part_high bytes ends k are inside = (part_at bytes ends k are inside).high

pub part_is : (bytes ends : List ℕ) (k from : ℕ) → AreEnds bytes ends → k < length ends → from ≡ begins_at ends k
    → slice_range bytes from (get_or ends k 0) ≡ get_or (parts_of bytes ends) k []
part_is bytes ends k from are inside is = ap (λ at. slice_range bytes at (get_or ends k 0)) is ∙ sym (part_at bytes ends k are inside).part

pub fewer_parts : (bytes now ends : List ℕ) → AreEnds bytes ends → 0 < length (run_of bytes ends) → now ≡ take (length bytes - 1) bytes → parts_of now ends ≡ parts_of bytes ends
fewer_parts bytes now ends are some is = ap (λ all. parts_of all ends) is ∙ (fewer bytes ends are some).parts
