-- The lines of a text are those of its pieces.
use Rattle.std.proofs.Common.{◌≡◌, ◌<◌, ◌≤◌, ℕ, suc, ◌+◌, ◌-◌, inl, inr, Bool, true, false, List, [], ◌∷◌, ◌++◌, length, take, drop, map, get_or, All, Some, None, Ok, Err, refl, ap, ◌∙◌, arith, length-append, length-drop, append_assoc, append-nil, eqb-true}
use Rattle.sched_text.proofs.Common.{if◌then◌else◌, Option, option_map, Result, option_or, length-map, All-nil, All-cons, sum_by-cons, is_lf, Line, lines, line_at, SchedFault, BadLine, bad_line}
use Rattle.std.specs.Prelude.{filter, ◌==◌, ◌&&◌, cond, count_by, position, IfErr, IsErrAnd}
use Rattle.std.proofs.lemmas.Bool.{and_parts}
use Rattle.std.proofs.lemmas.List.{map-append, get_or-drop, take_more, take-append-drop, drop_all, take_all}
use Rattle.std.proofs.lemmas.List.Quantifiers.{position-Some}
use Rattle.std.proofs.lemmas.List.Elements.{All-map, All-filter, filter-append}
use Rattle.std.proofs.lemmas.List.Sums.{count_by-le-length}
use Rattle.cyc_base.proofs.ListLemmas.{filter-no_longer, option_map-nothing, option_map-or, option_or-None}
use Rattle.blif_text.specs.Texts.{pieces, in_front, Joined, joined, in_words, has_words, bad_byte, unless_bad, before_hash, physical, without_cr, begins_with}
use Rattle.blif_text.specs.Faults.{Refuses}
use Rattle.blif_text.specs.declared.fault.TextFault.{TextFault}
use Rattle.blif_text.specs.declared.fault.TextFault.TheVariants.{BadByte}
use Rattle.blif_text.proofs.LineFacts.{found_is}
use Rattle.sched_text.specs.Pieces.{lines_from, line_behind, IsCut, IsNext}

-- ---- logical lines, of physical lines that aren't joined

abbrev numbered : ℕ → List (List ℕ) → List Line
numbered n whole = filter has_words (map in_words (joined false n whole))

-- what is done to both sides of a test is done to what it gives
if_ap : {A B : Type 0} (f : A → B) (t : Bool) (x y : A) → (if t then f x else f y) ≡ f (if t then x else y)
if_ap f t x y = grind arith

joined_append : (n : ℕ) (xs ys : List (List ℕ)) → joined false n (xs ++ ys) ≡ joined false n xs ++ joined false (n + length xs) ys
joined_append n [] ys = let e : n ≡ n + 0 = omega arith in ap (λ m. joined false m ys) e
joined_append n (x ∷ xs) ys = let e : n + 1 + length xs ≡ n + suc (length xs) = omega arith in rw (joined_append (n + 1) xs ys, e) refl

numbered_append : (n : ℕ) (xs ys : List (List ℕ)) → numbered n (xs ++ ys) ≡ numbered n xs ++ numbered (n + length xs) ys
numbered_append n xs ys = grind (arith, joined_append, map-append, filter-append)

numbered_behind : (k n : ℕ) (whole : List (List ℕ)) → numbered (k + n) whole ≡ map (line_behind k) (numbered n whole)
numbered_behind k n [] = refl
numbered_behind k n (x ∷ xs) = grind (arith, numbered_behind k (n + 1) xs, if_ap)

-- Lines are numbered by the physical ones.

length-joined : (n : ℕ) (whole : List (List ℕ)) → length (joined false n whole) ≡ length whole
length-joined n [] = refl
length-joined n (x ∷ xs) = ap suc (length-joined (n + 1) xs)

pub numbered_few : (n : ℕ) (whole : List (List ℕ)) → length (numbered n whole) ≤ length whole
numbered_few n whole = grind (arith, filter-no_longer, length-map, length-joined)

abbrev IsBefore : ℕ → Line → Type 0
IsBefore most line = line.number < most

joined_before : (n most : ℕ) (whole : List (List ℕ)) → n + length whole ≤ most → All (λ (line : Joined). line.number < most) (joined false n whole)
joined_before n most [] few = All-nil (λ (line : Joined). line.number < most)
joined_before n most (x ∷ xs) few = grind (arith, All-cons, joined_before (n + 1) most xs)

numbers : (n most : ℕ) (whole : List (List ℕ)) → n + length whole ≤ most → All (IsBefore most) (numbered n whole)
numbers n most whole few =
    All-filter has_words (IsBefore most) (map in_words (joined false n whole)) (All-map (IsBefore most) in_words (joined false n whole) (joined_before n most whole few))

-- a line with another one behind it isn't the last physical one
rising_and : (t : Bool) (line : Line) (rest : List Line) (most i : ℕ) → (0 < length rest → line.number + 1 < most)
    → ((j : ℕ) → j + 1 < length rest → (line_at rest j).number + 1 < most)
    → i + 1 < length (if t then line ∷ rest else rest) → (line_at (if t then line ∷ rest else rest) i).number + 1 < most
rising_and t line rest most i first later inside = grind arith

pub rising : (n most : ℕ) (whole : List (List ℕ)) → n + length whole ≤ most → (i : ℕ) → i + 1 < length (numbered n whole) → (line_at (numbered n whole) i).number + 1 < most
rising n most [] few i inside = absurd (omega arith)
rising n most (x ∷ xs) few i inside = grind (arith, numbered_few, rising_and, rising (n + 1) most xs)

-- ---- bad bytes

bad_append : (n : ℕ) (xs ys : List (List ℕ)) → bad_byte n (xs ++ ys) ≡ option_or (bad_byte n xs) (bad_byte (n + length xs) ys)
bad_append n [] ys = let e : n ≡ n + 0 = omega arith in ap (λ m. bad_byte m ys) e
bad_append n (x ∷ xs) ys = grind (arith, bad_append (n + 1) xs ys, if_ap)

bad_behind : (k n : ℕ) (whole : List (List ℕ)) → bad_byte (k + n) whole ≡ option_map (λ m. k + m) (bad_byte n whole)
bad_behind k n [] = refl
bad_behind k n (x ∷ xs) = grind (arith, bad_behind k (n + 1) xs, if_ap)

bad_within : (n m most : ℕ) (whole : List (List ℕ)) → n + length whole ≤ most → bad_byte n whole ≡ Some m → m < most
bad_within n m most [] few is = absurd (cc is)
bad_within n m most (x ∷ xs) few is = grind (arith, bad_within (n + 1) m most xs)

-- ---- physical lines

-- each LF ends a piece
size_of_pieces : (text : List ℕ) → length (pieces is_lf text) ≡ count_by is_lf text + 1
size_of_pieces [] = refl
size_of_pieces (x ∷ xs) = rw (sum_by-cons (λ b. cond (is_lf b) 1 0) x xs) (by (is_lf x) (pieces is_lf xs) (size_of_pieces xs))
  where
    by : (t : Bool) (ps : List (List ℕ)) → length ps ≡ count_by is_lf xs + 1 → length (if t then [] ∷ ps else in_front x ps) ≡ cond t 1 0 + count_by is_lf xs + 1
    by true ps size = omega arith
    by false [] size = absurd (omega arith)
    by false (p ∷ ps) size = omega arith

-- no CR is an LF
breaks_kept : (text : List ℕ) → count_by is_lf (without_cr text) ≡ count_by is_lf text
breaks_kept [] = refl
breaks_kept (x ∷ xs) = by (breaks_kept xs) ((x == 13) && begins_with 10 xs) refl
  where
    by : count_by is_lf (without_cr xs) ≡ count_by is_lf xs → (t : Bool) → ((x == 13) && begins_with 10 xs) ≡ t → count_by is_lf (if t then without_cr xs else x ∷ without_cr xs) ≡ count_by is_lf (x ∷ xs)
    by rest true is = grind (arith, eqb-true, and_parts, sum_by-cons)
    by rest false is = rw (sum_by-cons (λ b. cond (is_lf b) 1 0) x xs, sum_by-cons (λ b. cond (is_lf b) 1 0) x (without_cr xs), rest) refl

pub size_of_physical : (text : List ℕ) → length (physical text) ≡ count_by is_lf text + 1
size_of_physical text = length-map (pieces is_lf (without_cr text)) before_hash ∙ size_of_pieces (without_cr text) ∙ ap (λ n. n + 1) (breaks_kept text)

-- A text that goes on behind an LF.

-- whether an LF comes next
abbrev lf_next : List ℕ → Bool
lf_next [] = true
lf_next (x ∷ xs) = x == 10

begins_next : (xs rest : List ℕ) → begins_with 10 (xs ++ 10 ∷ rest) ≡ lf_next xs
begins_next [] rest = refl
begins_next (x ∷ xs) rest = refl

-- without each CR that stands directly before an LF, or at the end
abbrev clean : List ℕ → List ℕ
clean [] = []
clean (x ∷ xs) = if (x == 13) && lf_next xs then clean xs else x ∷ clean xs

cleaned : (text rest : List ℕ) → without_cr (text ++ 10 ∷ rest) ≡ clean text ++ 10 ∷ without_cr rest
cleaned [] rest = refl
cleaned (x ∷ xs) rest = grind (arith, begins_next, cleaned xs rest, if_ap)

pieces_append : (xs ys : List ℕ) → pieces is_lf (xs ++ 10 ∷ ys) ≡ pieces is_lf xs ++ pieces is_lf ys
pieces_append [] ys = refl
pieces_append (x ∷ xs) ys = grind (arith, pieces_append xs ys, size_of_pieces xs)

-- the physical lines of a text up to an LF
abbrev ended : List ℕ → List (List ℕ)
ended text = map before_hash (pieces is_lf (clean text))

physical_append : (text rest : List ℕ) → physical (text ++ 10 ∷ rest) ≡ ended text ++ physical rest
physical_append text rest = grind (arith, cleaned, pieces_append, map-append)

-- ---- a text that is cut

module _ (before : ℕ) where
  record Splits (text piece left : List ℕ) : Type 0 where
    lines : lines_from (before + 1) text ≡ lines_from (before + 1) piece ++ lines_from (before + count_by is_lf piece + 1) left
    bad : bad_line (before + 1) text ≡ option_or (bad_line (before + 1) piece) (bad_line (before + count_by is_lf piece + 1) left)

  splits_ended : (text left : List ℕ) → Splits (text ++ 10 ∷ left) (text ++ 10 ∷ []) left
  splits_ended text left =
      let front : List (List ℕ) = ended text in
      let size = size_of_physical (text ++ 10 ∷ []) in
      let parts : length (physical (text ++ 10 ∷ [])) ≡ length front + 1 = ap length (physical_append text []) ∙ length-append front ([] ∷ []) in
      let e : before + 1 + length front ≡ before + count_by is_lf (text ++ 10 ∷ []) + 1 = omega arith in
      record {
        lines = rw (
          physical_append text left,
          physical_append text [],
          numbered_append (before + 1) front (physical left),
          numbered_append (before + 1) front ([] ∷ []),
          append-nil (numbered (before + 1) front),
          e,
        ) refl;
        bad = rw (
          physical_append text left,
          physical_append text [],
          bad_append (before + 1) front (physical left),
          bad_append (before + 1) front ([] ∷ []),
          option_or-None (bad_byte (before + 1) front),
          e,
        ) refl;
      }

  splits : (text : List ℕ) (n : ℕ) → 0 < n → n ≤ length text → IsCut text n → Splits text (take n text) (drop n text)
  splits text n some inside (inl whole) = grind (arith, take_all, drop_all, append-nil, option_or-None)
  splits text n some inside (inr lf) =
      let front : List ℕ = take (n - 1) text in
      grind (arith, take_more text (n - 1) 0, append_assoc front (10 ∷ []) (drop n text), take-append-drop n text, splits_ended front (drop n text))

-- ---- what the lines of a piece are

bad : (b : Option ℕ) (all : List Line) (n : ℕ) → unless_bad b all ≡ Err n → b ≡ Some n
bad b all n is = grind arith

module _ (before : ℕ) (piece : List ℕ) where
  one_behind : bad_line (before + 1) piece ≡ option_map (λ m. before + m) (bad_line 1 piece)
  one_behind = bad_behind before 1 (physical piece)

  pub found_good : (found : List Line) → lines piece false ≡ Ok found → bad_line (before + 1) piece ≡ None
  found_good found is = one_behind ∙ ap (option_map (λ m. before + m)) (found_is (bad_line 1 piece) (lines_from 1 piece) found is).0

  pub found_lines : (found : List Line) → lines piece false ≡ Ok found → map (line_behind before) found ≡ lines_from (before + 1) piece
  found_lines found is = grind (arith, found_is, numbered_behind)

  pub found_bad : (n : ℕ) → lines piece false ≡ Err n → bad_line (before + 1) piece ≡ Some (before + n)
  found_bad n is = one_behind ∙ ap (option_map (λ m. before + m)) (bad (bad_line 1 piece) (lines_from 1 piece) n is)

  lines_within : length (physical piece) ≤ length piece + 1
  lines_within = let size = size_of_physical piece in let few = count_by-le-length is_lf piece in omega (arith, size, few)

  pub found_numbers : (found : List Line) (most : ℕ) → before + length piece + 1 < most → lines piece false ≡ Ok found → All (λ line. before + line.number < most) found
  found_numbers found most few is = grind (arith, lines_within, numbers, found_is)

  pub found_within : (n most : ℕ) → before + length piece + 1 < most → lines piece false ≡ Err n → before + n < most
  found_within n most few is = grind (arith, lines_within, bad_within 1 n (length piece + 2) (physical piece), bad (bad_line 1 piece) (lines_from 1 piece) n is)

-- ---- where a piece ends

pub cut_at : (text : List ℕ) (from at : ℕ) → position is_lf (drop from text) ≡ Some at → IsCut text (from + at + 1)
cut_at text from at is = grind (arith, position-Some is_lf (drop from text), get_or-drop from text, eqb-true (get_or (drop from text) at 0) 10)

-- ---- faults

pub refused : {X : Type 0} (fault : TextFault) (line : ℕ) (found : Result X ℕ) → fault ≡ BadByte line → Refuses fault found → found ≡ Err line
refused fault line found is refuses = rw is at refuses

pub is_err : {A : Type 0} (r : Result A SchedFault) (fault : SchedFault) (P : SchedFault → Type 0) → IsErrAnd r (λ e. e ≡ fault) → P fault → IfErr r P
is_err r fault P is p = grind arith

module _ (before : ℕ) (text : List ℕ) (n : ℕ) (some : 0 < n) (inside : n ≤ length text) (cut : IsCut text n) (front back : List ℕ) (front_is : front ≡ take n text) (back_is : back ≡ drop n text) where
  parts : Splits before text front back
  parts = rw (front_is, back_is) (splits before text n some inside cut)

  pub fault_here : (fault : SchedFault) → option_map (λ n. BadLine n) (bad_line (before + 1) front) ≡ Some fault → option_map (λ n. BadLine n) (bad_line (before + 1) text) ≡ Some fault
  fault_here fault is =
      let later = bad_line (before + count_by is_lf front + 1) back in
      ap (option_map (λ n. BadLine n)) parts.bad
      ∙ option_map-or (λ n. BadLine n) (bad_line (before + 1) front) later
      ∙ ap (λ found. option_or found (option_map (λ n. BadLine n) later)) is

  pub next_here : (count : ℕ) (piece : List Line) → count ≡ count_by is_lf front → option_map (λ n. BadLine n) (bad_line (before + 1) front) ≡ None
      → piece ≡ lines_from (before + 1) front → IsNext before (before + count) text back piece
  next_here count piece counted none is =
      let good = option_map-nothing (λ n. BadLine n) (bad_line (before + 1) front) none in
      let few = count_by-le-length is_lf front in
      let shorter = ap length back_is ∙ length-drop n text in
      let whole : length (front ++ back) ≡ length text = rw (front_is, back_is) (ap length (take-append-drop n text)) in
      let sizes = length-append front back in
      rw (counted, is) (record {
        lines = parts.lines;
        bad = parts.bad ∙ ap (λ found. option_or found (bad_line (before + count_by is_lf front + 1) back)) good;
        shorter = omega arith;
        small = omega arith;
      })
