-- Lists of rows that match alike.
use Rattle.std.proofs.Common.{◌≡◌, ℕ, ◌+◌, ◌<◌, Bool, true, false, not, ◌||◌, List, [], ◌∷◌, ◌++◌, length, drop, map, Result, IfOk, refl, sym, ap, subst, ◌∙◌, arith, true≢false, eqb, eqb-true}
use Rattle.dual_rail.proofs.Common.{and_parts, and_from, list_any, list_all, Node, Arena, Lit, Row, matches, matches_from, MatchAlike, remainder, narrowed, IsExpansion, IsPart}
use Rattle.std.proofs.Math.Bool.{or-true}
use Rattle.std.proofs.lemmas.List.Filters.{dedup_is}
use Rattle.std.proofs.lemmas.List.Folds.{list_any-append, Any-from_list_any, list_any-from_Any}
use Rattle.std.proofs.lemmas.List.Kept.{Contains-dedup_nat, Contains-from_dedup}
use Rattle.std.proofs.lemmas.List.Sorted.{list_any-IsPermutation}
use Rattle.std.specs.List.{filter, zip, dedup, Contains}
use Rattle.std.specs.List.Retain.{IsFiltered, DiffersFromLast}
use Rattle.std.specs.List.Sorted.{IsPermutation}
use Rattle.cyc_base.proofs.TruthLemmas.{same_truth, or-false}
use Rattle.cover_logic.specs.Covers.{allows}
use Rattle.dual_rail.specs.Expansion.{suffix, is_within, is_contained, in_plane}
use Rattle.dual_rail.specs.declared.live.Live.{Live}
use Rattle.bdd_store.proofs.SubfunctionLemmas.{IsPart-alike}
use Rattle.dual_rail.proofs.ExpansionLemmas.{any_weaker, IsPart-narrowed}

-- ---- one list in place of another one

any_moved : (test : ℕ → Bool) (xs ys : List ℕ) → ((x : ℕ) → Contains xs x → Contains ys x) → list_any test xs ≡ true → list_any test ys ≡ true
any_moved test xs ys to e =
    let found = Any-from_list_any test xs e in
    let there = to found.1 (found.0, found.2, found.3) in
    list_any-from_Any test ys (there.0, found.1, there.1, there.2, found.4)

-- what `dedup` leaves passes a test as before
any_dedup : (test : ℕ → Bool) (xs : List ℕ) → list_any test (dedup eqb xs) ≡ list_any test xs
any_dedup test xs = same_truth _ _ (any_moved test (dedup eqb xs) xs (λ x. Contains-from_dedup eqb xs x)) (any_moved test xs (dedup eqb xs) (λ x. Contains-dedup_nat xs x))

pub any_ascending : (xs sorted ys : List ℕ) → IsPermutation xs sorted → IsFiltered (DiffersFromLast eqb) [] sorted ys → (test : ℕ → Bool) → list_any test ys ≡ list_any test xs
any_ascending xs sorted ys moved kept test = grind (arith, dedup_is eqb sorted ys kept, any_dedup test sorted, list_any-IsPermutation test xs sorted moved)

-- the rows' classes match where the rows do
pub any_map : (test : ℕ → Bool) (f : ℕ → ℕ) → (xs : List ℕ) → ((x : ℕ) → test (f x) ≡ test x) → list_any test (map f xs) ≡ list_any test xs
any_map test f [] same = refl
any_map test f (x ∷ xs) same = λ j. same x j || any_map test f xs same j

-- ---- rows in others

within_allows : (lit wide : Lit) (bit : Bool) → is_within lit wide ≡ true → allows lit bit ≡ true → allows wide bit ≡ true
within_allows lit wide bit w a = grind arith

within_matches : (lits wide : List Lit) (bits : List Bool) → length lits ≡ length wide → list_all (λ pair. is_within pair.0 pair.1) (zip lits wide) ≡ true → matches lits bits ≡ true → matches wide bits ≡ true
within_matches [] [] bits len w m = m
within_matches [] (v ∷ wide) bits len w m = absurd (omega (arith, len))
within_matches (l ∷ lits) [] bits len w m = absurd (omega (arith, len))
within_matches (l ∷ lits) (v ∷ wide) [] len w m = refl
within_matches (l ∷ lits) (v ∷ wide) (b ∷ bits) len w m = grind (arith, and_parts (is_within l v), and_parts (allows l b) (matches lits bits), and_from (allows v b) (matches wide bits), within_allows l v b, within_matches lits wide bits)

contained_matches : (rows : List Row) (pin : ℕ) (bits : List Bool) (row other : ℕ) → is_contained rows pin row other ≡ true → matches_from rows pin bits row ≡ true → matches_from rows pin bits other ≡ true
contained_matches rows pin bits row other c m =
    grind (arith, and_parts (eqb (length (suffix rows pin row)) (length (suffix rows pin other))), within_matches (suffix rows pin row) (suffix rows pin other) (drop pin bits), eqb-true (length (suffix rows pin row)) (length (suffix rows pin other)))

-- a row that is contained in one of them says nothing new
pub any_contained : (rows : List Row) (pin : ℕ) (kept : List ℕ) (row : ℕ) → list_any (is_contained rows pin row) kept ≡ true → (bits : List Bool)
    → list_any (matches_from rows pin bits) kept ≡ (list_any (matches_from rows pin bits) kept || matches_from rows pin bits row)
any_contained rows pin kept row c bits =
    grind (arith, any_weaker (is_contained rows pin row) (matches_from rows pin bits), contained_matches rows pin bits row, or-true (list_any (matches_from rows pin bits) kept), or-false (list_any (matches_from rows pin bits) kept))

-- nor do those that are contained in it
any_others : (rows : List Row) (pin : ℕ) (row : ℕ) (bits : List Bool) → matches_from rows pin bits row ≡ false → (kept : List ℕ)
    → list_any (matches_from rows pin bits) (filter (λ other. not (is_contained rows pin other row)) kept) ≡ list_any (matches_from rows pin bits) kept
any_others rows pin row bits e [] = refl
any_others rows pin row bits e (k ∷ kept) = grind (arith, any_others rows pin row bits e kept, true≢false, contained_matches rows pin bits k row)

pub any_kept : (rows : List Row) (pin : ℕ) (kept left new : List ℕ) (row : ℕ) → left ≡ filter (λ other. not (is_contained rows pin other row)) kept → new ≡ left ++ row ∷ [] → (bits : List Bool)
    → list_any (matches_from rows pin bits) new ≡ (list_any (matches_from rows pin bits) kept || matches_from rows pin bits row)
any_kept rows pin kept left new row fewer is bits =
    (λ j. list_any (matches_from rows pin bits) (is j))
    ∙ list_any-append (matches_from rows pin bits) left (row ∷ [])
    ∙ ap (λ m. list_any (matches_from rows pin bits) left || m) (or-false (matches_from rows pin bits row))
    ∙ by (matches_from rows pin bits row) refl
  where
    by : (m : Bool) → matches_from rows pin bits row ≡ m → (list_any (matches_from rows pin bits) left || m) ≡ (list_any (matches_from rows pin bits) kept || m)
    by m e = grind (arith, or-true, any_others)

-- ---- what is left to be matched

pub MatchAlike-of : {E : Type 0} (rows : List Row) (pin : ℕ) (xs ys : List ℕ) (r : Result Live E) → IfOk r (λ next. MatchAlike rows pin next.rows.items xs) → MatchAlike rows pin xs ys → IfOk r (λ next. MatchAlike rows pin next.rows.items ys)
MatchAlike-of rows pin xs ys r is same = grind arith

pub remainder-alike : (rows : List Row) (plane : Bool) (pin : ℕ) (xs ys : List ℕ) → MatchAlike rows pin xs ys → (bits : List Bool) → remainder rows plane pin xs bits ≡ remainder rows plane pin ys bits
remainder-alike rows plane pin xs ys same bits = ap (in_plane plane) (same bits)

-- what is left at a value of the pin is a part
pub IsPart-next : (rows : List Row) (plane : Bool) {pin : ℕ} (live : List ℕ) (b : Bool) {vars next : ℕ} (left : List ℕ) → pin < vars → next ≡ pin + 1 → MatchAlike rows (pin + 1) left (narrowed rows pin b live) → IsPart vars (remainder rows plane pin live) (remainder rows plane next left)
IsPart-next rows plane {pin} live b {vars} left less at same =
    subst (λ (n : ℕ). IsPart vars (remainder rows plane pin live) (remainder rows plane n left)) (sym at)
    (IsPart-alike (IsPart-narrowed rows plane pin live b vars less) (λ bits len. remainder-alike rows plane (pin + 1) left (narrowed rows pin b live) same bits))

pub IsExpansion-next : {E : Type 0} (rows : List Row) (plane : Bool) (s : Arena) (pin next : ℕ) (left live : List ℕ) (r : Result Node E) → IfOk r (IsExpansion rows plane s next left) → next ≡ pin → MatchAlike rows pin left live → IfOk r (IsExpansion rows plane s pin live)
IsExpansion-next rows plane s pin next left live r is at same = grind arith

-- at the first pin
pub remainder-first : (rows : List Row) (plane : Bool) (pin : ℕ) (live all : List ℕ) → pin ≡ 0 → MatchAlike rows 0 live all → (bits : List Bool) → remainder rows plane pin live bits ≡ remainder rows plane 0 all bits
remainder-first rows plane pin live all at same bits = (λ j. remainder rows plane (at j) live bits) ∙ remainder-alike rows plane 0 live all same bits
