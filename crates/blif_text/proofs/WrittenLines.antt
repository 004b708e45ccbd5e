-- A text of lines of names reads back as these lines. The words of a line have one blank between, and another may stand
-- behind the last of them.
use Rattle.std.proofs.Common.{◌≡◌, ◌≢◌, ℕ, ◌+◌, ◌≤◌, List, [], ◌∷◌, ◌++◌, true, false, refl, ap, ◌∙◌, append_assoc, append-nil, length, arith}
use Rattle.std.specs.Prelude.{filter, map, All, Bool, ◌==◌, ◌&&◌, if◌then◌else◌, cond, count_by, None, Ok}
use Rattle.std.specs.List.{list_all, flat_map}
use Rattle.std.proofs.lemmas.Bool.{ne_eqb}
use Rattle.std.proofs.lemmas.Bool.Decides.{nat_tests}
use Rattle.std.proofs.lemmas.List.Elements.{All-head, All-tail}
use Rattle.std.proofs.lemmas.List.Sums.{sum_by-cons}
use Rattle.cyc_base.specs.Names.{IsBlifByte, IsBlifName}
use Rattle.blif_text.specs.Texts.{pieces, in_front, is_blank, is_lf, is_allowed, words_of, ends_in_backslash, Joined, Line, joined, in_words, has_words, bad_byte, before_hash, lines, end_number, physical, without_cr}
use Rattle.blif_text.specs.Reading.{word_if_filled}
use Rattle.blif_text.proofs.Pieces.{pieces_other, NoBlank, words_behind, words_alone}

-- one or more names
pub record IsLine (words : List (List ℕ)) : Type 0 where
  pub filled : words ≢ []
  pub names : All IsBlifName words

-- lines of these words, numbered from n
abbrev pub numbered : ℕ → List (List (List ℕ)) → List Line
numbered n [] = []
numbered n (words ∷ rest) = record { number = n; words = words } ∷ numbered (n + 1) rest

-- A line without its LF.

abbrev pub spaced : List (List ℕ) → List ℕ
spaced [] = []
spaced (word ∷ []) = word
spaced (word ∷ next ∷ rest) = word ++ 32 ∷ spaced (next ∷ rest)

-- where the test says so, a blank stands behind the last word
abbrev pub line_of : (List (List ℕ) → Bool) → List (List ℕ) → List ℕ
line_of closes words = spaced words ++ (if closes words then 32 ∷ [] else [])

-- Bytes of a written line: what names and blanks have.

record IsPlain (b : ℕ) : Type 0 where
  low : 32 ≤ b
  high : b ≤ 126
  no_hash : b ≢ 35

abbrev EachPlain : List ℕ → Type 0
EachPlain [] = Unit {0}
EachPlain (b ∷ rest) = IsPlain b × EachPlain rest

plain_lf : (b : ℕ) → IsPlain b → is_lf b ≡ false
plain_lf b is = ne_eqb b 10 (omega (arith, is.low))

plain_cr : (b : ℕ) → IsPlain b → (b == 13) ≡ false
plain_cr b is = ne_eqb b 13 (omega (arith, is.low))

plain_hash : (b : ℕ) → IsPlain b → (b == 35) ≡ false
plain_hash b is = ne_eqb b 35 is.no_hash

allowed_between : (b : ℕ) → 32 ≤ b → b ≤ 126 → is_allowed b ≡ true
allowed_between b low high = grind (arith, nat_tests)

name_no_blank : (b : ℕ) → 33 ≤ b → is_blank b ≡ false
name_no_blank b low = grind (arith, nat_tests)

plain_append : (xs ys : List ℕ) → EachPlain xs → EachPlain ys → EachPlain (xs ++ ys)
plain_append [] ys p q = q
plain_append (x ∷ xs) ys p q = (p.0, plain_append xs ys p.1 q)

blank_plain : IsPlain 32
blank_plain = record { low = omega arith; high = omega arith; no_hash = omega arith }

plain_name : (w : List ℕ) → All IsBlifByte w → EachPlain w
plain_name [] each = tt
plain_name (b ∷ rest) each = grind (arith, All-head, plain_name rest (All-tail IsBlifByte b rest each), All-tail)

no_blank_name : (w : List ℕ) → All IsBlifByte w → NoBlank w
no_blank_name [] each = tt
no_blank_name (b ∷ rest) each = (name_no_blank b (All-head IsBlifByte b rest each).0, no_blank_name rest (All-tail IsBlifByte b rest each))

plain_spaced : (ws : List (List ℕ)) → All IsBlifName ws → EachPlain (spaced ws)
plain_spaced [] each = tt
plain_spaced (w ∷ []) each = plain_name w (All-head IsBlifName w [] each).1
plain_spaced (w ∷ v ∷ ws) each =
    plain_append w (32 ∷ spaced (v ∷ ws)) (plain_name w (All-head IsBlifName w (v ∷ ws) each).1)
    (blank_plain, plain_spaced (v ∷ ws) (All-tail IsBlifName w (v ∷ ws) each))

plain_end : (t : Bool) → EachPlain (if t then 32 ∷ [] else [])
plain_end t = grind arith

plain_line : (closes : List (List ℕ) → Bool) (ws : List (List ℕ)) → All IsBlifName ws → EachPlain (line_of closes ws)
plain_line closes ws each = plain_append (spaced ws) (if closes ws then 32 ∷ [] else []) (plain_spaced ws each) (plain_end (closes ws))

-- Physical lines.

cr_line : (xs rest : List ℕ) → EachPlain xs → without_cr (xs ++ 10 ∷ rest) ≡ xs ++ 10 ∷ without_cr rest
cr_line [] rest p = refl
cr_line (x ∷ xs) rest p = grind (arith, plain_cr, cr_line xs rest p.1)

pieces_line : (xs rest : List ℕ) → EachPlain xs → pieces is_lf (xs ++ 10 ∷ rest) ≡ xs ∷ pieces is_lf rest
pieces_line [] rest p = refl
pieces_line (x ∷ xs) rest p = pieces_other is_lf x (xs ++ 10 ∷ rest) (plain_lf x p.0) ∙ ap (in_front x) (pieces_line xs rest p.1)

hash_line : (xs : List ℕ) → EachPlain xs → before_hash xs ≡ xs
hash_line [] p = refl
hash_line (x ∷ xs) p = grind (arith, plain_hash, hash_line xs p.1)

allowed_line : (xs : List ℕ) → EachPlain xs → list_all is_allowed xs ≡ true
allowed_line [] p = refl
allowed_line (x ∷ xs) p = grind (arith, allowed_between, allowed_line xs p.1)

breaks_line : (xs rest : List ℕ) → EachPlain xs → count_by is_lf (xs ++ 10 ∷ rest) ≡ 1 + count_by is_lf rest
breaks_line [] rest p = sum_by-cons (λ b. cond (is_lf b) 1 0) 10 rest
breaks_line (x ∷ xs) rest p = grind (arith, sum_by-cons, plain_lf, breaks_line xs rest p.1)

-- The words of a line are those that were written.

word_filled : (w : List ℕ) → w ≢ [] → word_if_filled w ≡ w ∷ []
word_filled [] some = absurd (some refl)
word_filled (b ∷ bs) some = refl

words_spaced : (t : Bool) (ws : List (List ℕ)) → All IsBlifName ws → words_of (spaced ws ++ (if t then 32 ∷ [] else [])) ≡ ws
words_spaced true [] each = refl
words_spaced false [] each = refl
words_spaced true (w ∷ []) each = grind (arith, All-head IsBlifName w [] each, words_behind w 32 [], no_blank_name w, word_filled w)
words_spaced false (w ∷ []) each = grind (arith, All-head IsBlifName w [] each, append-nil w, words_alone w, no_blank_name w, word_filled w)
words_spaced t (w ∷ v ∷ ws) each =
    grind (arith, All-head IsBlifName w (v ∷ ws) each, append_assoc w (32 ∷ spaced (v ∷ ws)) (if t then 32 ∷ [] else []), words_behind w 32 (spaced (v ∷ ws) ++ (if t then 32 ∷ [] else [])), no_blank_name w, word_filled w, words_spaced t (v ∷ ws) (All-tail IsBlifName w (v ∷ ws) each), All-tail IsBlifName w (v ∷ ws) each)

kept : (n : ℕ) (ws : List (List ℕ)) (rest : List Line) → ws ≢ [] → filter has_words (record { number = n; words = ws } ∷ rest) ≡ record { number = n; words = ws } ∷ filter has_words rest
kept n [] rest some = absurd (some refl)
kept n (w ∷ ws) rest some = refl

names_of : (ws : List (List ℕ)) (rest : List (List (List ℕ))) → All IsLine (ws ∷ rest) → All IsBlifName ws
names_of ws rest each = (All-head IsLine ws rest each).names

nothing_joined : (joins : Bool) (n : ℕ) → joined joins n ([] ∷ []) ≡ record { number = n; bytes = [] } ∷ []
nothing_joined joins n = grind arith

-- A text of such lines.

module _ (line_text : List (List ℕ) → List ℕ) (closes : List (List ℕ) → Bool) (line_is : (ws : List (List ℕ)) → line_text ws ≡ line_of closes ws ++ 10 ∷ []) where
  text_front : (ws : List (List ℕ)) (rest : List (List (List ℕ))) → flat_map line_text (ws ∷ rest) ≡ line_of closes ws ++ 10 ∷ flat_map line_text rest
  text_front ws rest = ap (λ line. line ++ flat_map line_text rest) (line_is ws) ∙ append_assoc (line_of closes ws) (10 ∷ []) (flat_map line_text rest)

  cr_text : (written : List (List (List ℕ))) → All IsLine written → without_cr (flat_map line_text written) ≡ flat_map line_text written
  cr_text [] each = refl
  cr_text (ws ∷ rest) each =
      grind (arith, text_front ws rest, cr_line (line_of closes ws) (flat_map line_text rest) (plain_line closes ws (names_of ws rest each)), plain_line closes ws (names_of ws rest each), names_of ws rest each, cr_text rest (All-tail IsLine ws rest each), All-tail IsLine ws rest each)

  -- the written lines, and an empty one behind the last LF
  abbrev cut_lines : List (List (List ℕ)) → List (List ℕ)
  cut_lines [] = [] ∷ []
  cut_lines (ws ∷ rest) = line_of closes ws ∷ cut_lines rest

  cut_text : (written : List (List (List ℕ))) → All IsLine written → map before_hash (pieces is_lf (flat_map line_text written)) ≡ cut_lines written
  cut_text [] each = refl
  cut_text (ws ∷ rest) each =
      grind (arith, plain_line closes ws (names_of ws rest each), names_of ws rest each, text_front ws rest, pieces_line (line_of closes ws) (flat_map line_text rest), hash_line (line_of closes ws), cut_text rest (All-tail IsLine ws rest each), All-tail IsLine ws rest each)

  physical_text : (written : List (List (List ℕ))) → All IsLine written → physical (flat_map line_text written) ≡ cut_lines written
  physical_text written each = ap (λ text. map before_hash (pieces is_lf text)) (cr_text written each) ∙ cut_text written each

  no_bad : (n : ℕ) (written : List (List (List ℕ))) → All IsLine written → bad_byte n (cut_lines written) ≡ None
  no_bad n [] each = refl
  no_bad n (ws ∷ rest) each =
      grind (arith, allowed_line (line_of closes ws) (plain_line closes ws (names_of ws rest each)), plain_line closes ws (names_of ws rest each), names_of ws rest each, no_bad (n + 1) rest (All-tail IsLine ws rest each), All-tail IsLine ws rest each)

  abbrev alone : ℕ → List (List (List ℕ)) → List Joined
  alone n [] = record { number = n; bytes = [] } ∷ []
  alone n (ws ∷ rest) = record { number = n; bytes = line_of closes ws } ∷ alone (n + 1) rest

  words_text : (n : ℕ) (written : List (List (List ℕ))) → All IsLine written → filter has_words (map in_words (alone n written)) ≡ numbered n written
  words_text n [] each = refl
  words_text n (ws ∷ rest) each = grind (arith, All-head IsLine ws rest each, words_spaced (closes ws) ws, kept n ws (map in_words (alone (n + 1) rest)), words_text (n + 1) rest (All-tail IsLine ws rest each), All-tail IsLine ws rest each)

  -- where no line of names is joined to the next
  module _ (joins : Bool) (not_joined : (ws : List (List ℕ)) → All IsBlifName ws → (joins && ends_in_backslash (line_of closes ws)) ≡ false) where
    joined_text : (n : ℕ) (written : List (List (List ℕ))) → All IsLine written → joined joins n (cut_lines written) ≡ alone n written
    joined_text n [] each = nothing_joined joins n
    joined_text n (ws ∷ rest) each = grind (arith, names_of ws rest each, joined_text (n + 1) rest (All-tail IsLine ws rest each), All-tail IsLine ws rest each)

    pub written_lines : (written : List (List (List ℕ))) → All IsLine written → lines (flat_map line_text written) joins ≡ Ok (numbered 1 written)
    written_lines written each = grind (arith, physical_text, no_bad, joined_text, words_text)

  -- each line has one LF
  breaks_are_lines : (written : List (List (List ℕ))) → All IsLine written → count_by is_lf (flat_map line_text written) ≡ length written
  breaks_are_lines [] each = refl
  breaks_are_lines (ws ∷ rest) each =
      grind (arith, text_front ws rest, breaks_line (line_of closes ws) (flat_map line_text rest) (plain_line closes ws (names_of ws rest each)), plain_line closes ws (names_of ws rest each), names_of ws rest each, breaks_are_lines rest (All-tail IsLine ws rest each), All-tail IsLine ws rest each)

  pub written_end : (written : List (List (List ℕ))) → All IsLine written → end_number (flat_map line_text written) ≡ 1 + length written
  written_end written each = let e = breaks_are_lines written each in let done : count_by is_lf (flat_map line_text written) + 1 ≡ 1 + length written = omega (arith, e) in done
