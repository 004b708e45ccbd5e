-- A list of lists as one list with ends.
use Rattle.std.proofs.Common.{◌≡◌, ℕ, suc, zero, ◌-◌, ◌<◌, ◌≤◌, List, [], ◌∷◌, ◌++◌, take, drop, length, get_or, refl, ap, arith, length-drop}
use Rattle.std.proofs.lemmas.List.{take-append-le, drop-append-le}
use Rattle.std.proofs.lemmas.Grind.{common_steps}
use Rattle.blif_text.specs.WordBuffers.{cut, last_end, Rises}

pub rises_bound : {M : Type 0} (end_of : M → ℕ) (from : ℕ) (ms : List M) (len : ℕ) → Rises end_of from ms len → (from ≤ last_end end_of from ms) × (last_end end_of from ms ≤ len)
rises_bound end_of from [] len rises = (omega arith, rises)
rises_bound end_of from (m ∷ ms) len rises = grind (arith, rises_bound end_of (end_of m) ms len rises.1)

-- up to any length that the last end is within
pub rises_to : {M : Type 0} (end_of : M → ℕ) (from : ℕ) (ms : List M) (len other : ℕ) → Rises end_of from ms len → last_end end_of from ms ≤ other → Rises end_of from ms other
rises_to end_of from [] len other rises fits = fits
rises_to end_of from (m ∷ ms) len other rises fits = (rises.0, rises_to end_of (end_of m) ms len other rises.1 fits)

pub rises_end : {M : Type 0} (end_of : M → ℕ) (from : ℕ) (ms : List M) (m : M) (len : ℕ) → Rises end_of from ms len → end_of m ≡ len → Rises end_of from (ms ++ m ∷ []) len
rises_end end_of from [] m len rises is = (omega (arith, rises, is), omega (arith, is))
rises_end end_of from (x ∷ xs) m len rises is = (rises.0, rises_end end_of (end_of x) xs m len rises.1 is)

pub last_end_end : {M : Type 0} (end_of : M → ℕ) (from : ℕ) (ms : List M) (m : M) → last_end end_of from (ms ++ m ∷ []) ≡ end_of m
last_end_end end_of from [] m = refl
last_end_end end_of from (x ∷ xs) m = last_end_end end_of (end_of x) xs m

part_more : {X : Type 0} (from to : ℕ) (xs ys : List X) → from ≤ to → to ≤ length xs → take (to - from) (drop from (xs ++ ys)) ≡ take (to - from) (drop from xs)
part_more from to xs ys low high = grind (arith, length-drop, drop-append-le, take-append-le)

pub cut_more : {M X Y : Type 0} (end_of : M → ℕ) (made : M → List X → Y) (xs ys : List X) (from : ℕ) (ms : List M) → Rises end_of from ms (length xs)
    → cut end_of made (xs ++ ys) from ms ≡ cut end_of made xs from ms
cut_more end_of made xs ys from [] rises = refl
cut_more end_of made xs ys from (m ∷ ms) rises = grind (arith, rises_bound, part_more, cut_more end_of made xs ys (end_of m) ms rises.1)

take_all : {X : Type 0} (xs : List X) (n : ℕ) → n ≡ length xs → take n xs ≡ xs
take_all xs n is = grind (arith, common_steps)

pub cut_end : {M X Y : Type 0} (end_of : M → ℕ) (made : M → List X → Y) (xs : List X) (from : ℕ) (ms : List M) (m : M) → Rises end_of from ms (length xs)
    → end_of m ≡ length xs
    → cut end_of made xs from (ms ++ m ∷ []) ≡ cut end_of made xs from ms ++ made m (drop (last_end end_of from ms) xs) ∷ []
cut_end end_of made xs from [] m rises is = grind (arith, length-drop, take_all)
cut_end end_of made xs from (x ∷ more) m rises is = grind (arith, cut_end end_of made xs (end_of x) more m rises.1 is)

pub length_cut : {M X Y : Type 0} (end_of : M → ℕ) (made : M → List X → Y) (xs : List X) (from : ℕ) (ms : List M) → length (cut end_of made xs from ms) ≡ length ms
length_cut end_of made xs from [] = refl
length_cut end_of made xs from (m ∷ ms) = ap suc (length_cut end_of made xs (end_of m) ms)

-- where the part at a place begins
abbrev pub end_before : {M : Type 0} → (M → ℕ) → ℕ → List M → ℕ → ℕ
end_before end_of from [] k = from
end_before end_of from (m ∷ ms) zero = from
end_before end_of from (m ∷ ms) (suc k) = end_before end_of (end_of m) ms k

pub begins_first : {M : Type 0} (end_of : M → ℕ) (from : ℕ) (ms : List M) → end_before end_of from ms 0 ≡ from
begins_first end_of from [] = refl
begins_first end_of from (m ∷ ms) = refl

pub begins_later : {M : Type 0} (end_of : M → ℕ) (from : ℕ) (ms : List M) (k : ℕ) (d : M) → k < length ms → end_before end_of from ms (suc k) ≡ end_of (get_or ms k d)
begins_later end_of from [] k d inside = absurd (omega arith)
begins_later end_of from (m ∷ ms) zero d inside = begins_first end_of (end_of m) ms
begins_later end_of from (m ∷ ms) (suc k) d inside = begins_later end_of (end_of m) ms k d (omega arith)

pub cut_at : {M X Y : Type 0} (end_of : M → ℕ) (made : M → List X → Y) (xs : List X) (from : ℕ) (ms : List M) (k : ℕ) (d : M) (e : Y) → k < length ms
    → get_or (cut end_of made xs from ms) k e
    ≡ made (get_or ms k d) (take (end_of (get_or ms k d) - end_before end_of from ms k) (drop (end_before end_of from ms k) xs))
cut_at end_of made xs from [] k d e inside = absurd (omega arith)
cut_at end_of made xs from (m ∷ ms) zero d e inside = refl
cut_at end_of made xs from (m ∷ ms) (suc k) d e inside = cut_at end_of made xs (end_of m) ms k d e (omega arith)

-- a part lies within the list
pub part_within : {M : Type 0} (end_of : M → ℕ) (from : ℕ) (ms : List M) (len k : ℕ) (d : M) → Rises end_of from ms len → k < length ms
    → (end_before end_of from ms k ≤ end_of (get_or ms k d)) × (end_of (get_or ms k d) ≤ len)
part_within end_of from [] len k d rises inside = absurd (omega arith)
part_within end_of from (m ∷ ms) len zero d rises inside = grind (arith, rises_bound)
part_within end_of from (m ∷ ms) len (suc k) d rises inside = part_within end_of (end_of m) ms len k d rises.1 (omega arith)
