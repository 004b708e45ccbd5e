-- The longest run of `~` is found byte by byte in a text, and piece by piece in texts.
use Rattle.std.proofs.Common.{◌≡◌, ℕ, suc, ◌+◌, ◌<◌, ◌≤◌, max, List, [], ◌∷◌, ◌++◌, length, get_or, take, drop, false, nat_eq, if◌then◌else◌, refl, sym, ap, ◌∙◌, arith, add-one}
use Rattle.std.proofs.Math.Seq.{drop-cons}
use Rattle.std.proofs.lemmas.Grind.{common_steps}
use Rattle.std.proofs.lemmas.List.{take_more}
use Rattle.std.specs.Ordering.{ord_max, nat_cmp}
use Rattle.cyc_base.specs.Tildes.{leading_run, longest_run, longest_run_of}

-- `max` of the code
pub max_is : (a b : ℕ) → ord_max nat_cmp a b ≡ max a b
max_is a b = grind (arith, common_steps)

pub leading_longest : (a : List ℕ) → leading_run a ≤ longest_run a
leading_longest [] = omega arith
leading_longest (x ∷ a) = omega arith

-- a text behind another
pub longest_behind : (a b : List ℕ) → longest_run b ≤ longest_run (a ++ b)
longest_behind [] b = omega arith
longest_behind (x ∷ a) b = let h = longest_behind a b in omega arith

pub longest-append : (xs ys : List (List ℕ)) → longest_run_of (xs ++ ys) ≡ max (longest_run_of xs) (longest_run_of ys)
longest-append [] ys = omega arith
longest-append (x ∷ xs) ys = let h = longest-append xs ys in omega arith

-- with one more text
pub longest_more : (texts : List (List ℕ)) (i : ℕ) (text : List ℕ) → i < length texts → text ≡ get_or texts i text → longest_run_of (take (i + 1) texts) ≡ max (longest_run_of (take i texts)) (longest_run text)
longest_more texts i text l e = grind (arith, take_more texts i text l, longest-append (take i texts) (text ∷ []))

-- one more byte of a text, where `run` counts the `~` that end just before it
pub run_goes_on : (xs : List ℕ) (i longest run total : ℕ) → i < length xs → get_or xs i 0 ≡ 126 → max longest (max (run + leading_run (drop i xs)) (longest_run (drop i xs))) ≡ total → max (max longest (run + 1)) (max ((run + 1) + leading_run (drop (i + 1) xs)) (longest_run (drop (i + 1) xs))) ≡ total
run_goes_on xs i longest run total l h e = grind (arith, add-one, drop-cons xs i 0 l, leading_longest (drop (i + 1) xs))

other_byte : (b : ℕ) (rest : List ℕ) → nat_eq b 126 ≡ false → (leading_run (b ∷ rest) ≡ 0) × (longest_run (b ∷ rest) ≡ longest_run rest)
other_byte b rest h = grind arith

pub run_ends : (xs : List ℕ) (i longest run total : ℕ) → i < length xs → (get_or xs i 0 ≡ 126 → ⊥) → run ≤ longest → max longest (max (run + leading_run (drop i xs)) (longest_run (drop i xs))) ≡ total → max (max longest 0) (max (0 + leading_run (drop (i + 1) xs)) (longest_run (drop (i + 1) xs))) ≡ total
run_ends xs i longest run total l h m e =
    let d : drop i xs ≡ get_or xs i 0 ∷ drop (i + 1) xs = rw add-one (drop-cons xs i 0 l) in
    let t : nat_eq (get_or xs i 0) 126 ≡ false = grind (arith, common_steps) in
    let o = other_byte (get_or xs i 0) (drop (i + 1) xs) t in
    let f : max longest (max (run + leading_run (get_or xs i 0 ∷ drop (i + 1) xs)) (longest_run (get_or xs i 0 ∷ drop (i + 1) xs))) ≡ total = ap (λ ys. max longest (max (run + leading_run ys) (longest_run ys))) (sym d) ∙ e in
    let g = leading_longest (drop (i + 1) xs) in
    omega (arith, o.0, o.1, f)
