-- Each word of a line is a BLIF name, and a text has at least as many bytes as words.
use Rattle.std.proofs.Common.{◌≡◌, ◌≢◌, ◌≤◌, ℕ, ◌+◌, List, [], ◌∷◌, ◌++◌, length, true, false, refl, arith, length-append, All}
use Rattle.std.specs.Prelude.{filter, map, Bool, ◌==◌, ◌&&◌, if◌then◌else◌, Some, None, Ok, Option}
use Rattle.std.specs.List.{list_all}
use Rattle.std.proofs.lemmas.List.Elements.{All-nil, All-cons, All-head, All-tail, All-append, All-filter}
use Rattle.cyc_base.specs.Names.{IsBlifByte, IsBlifName}
use Rattle.cyc_base.proofs.TruthLemmas.{first_of_and, second_of_and}
use Rattle.blif_text.specs.Texts.{pieces, in_front, is_filled, is_blank, is_lf, is_allowed, without_cr, before_hash, physical, bad_byte, Joined, Line, ends_in_backslash, without_last, continued, joined, words_of, in_words, has_words, logical, unless_bad, lines}

-- Bytes of a line without its comment.

abbrev pub IsLineByte : ℕ → Type 0
IsLineByte b = (is_allowed b ≡ true) × (b ≢ 35)

abbrev NoHash : ℕ → Type 0
NoHash b = b ≢ 35

no_hash_front : (t : Bool) (b : ℕ) (rest : List ℕ) → (b == 35) ≡ t → All NoHash rest → All NoHash (if t then [] else b ∷ rest)
no_hash_front t b rest is each = grind arith

no_hash : (line : List ℕ) → All NoHash (before_hash line)
no_hash [] = All-nil NoHash
no_hash (b ∷ rest) = no_hash_front (b == 35) b (before_hash rest) refl (no_hash rest)

line_bytes : (line : List ℕ) → list_all is_allowed line ≡ true → All NoHash line → All IsLineByte line
line_bytes [] allowed hash = All-nil IsLineByte
line_bytes (b ∷ rest) allowed hash = grind (arith, All-cons, first_of_and, All-head, line_bytes rest (second_of_and (is_allowed b) (list_all is_allowed rest) allowed) (All-tail NoHash b rest hash), second_of_and, All-tail)

abbrev IsCleanLine : List ℕ → Type 0
IsCleanLine line = All IsLineByte line

clean_front : (t : Bool) (n : ℕ) (line : List ℕ) (rest : List (List ℕ)) → list_all is_allowed line ≡ t → (if t then bad_byte (n + 1) rest else Some n) ≡ None
    → (list_all is_allowed line ≡ true) × (bad_byte (n + 1) rest ≡ None)
clean_front t n line rest is none = grind arith

clean_lines : (n : ℕ) (whole : List (List ℕ)) → bad_byte n (map before_hash whole) ≡ None → All IsCleanLine (map before_hash whole)
clean_lines n [] none = All-nil IsCleanLine
clean_lines n (line ∷ rest) none = grind (arith, clean_front, All-cons, line_bytes, no_hash, clean_lines (n + 1) rest)

-- Joined lines.

abbrev IsCleanJoined : Joined → Type 0
IsCleanJoined line = All IsLineByte line.bytes

clean_without_last : (line : List ℕ) → All IsLineByte line → All IsLineByte (without_last line)
clean_without_last [] each = All-nil IsLineByte
clean_without_last (b ∷ []) each = All-nil IsLineByte
clean_without_last (b ∷ c ∷ rest) each =
    All-cons IsLineByte b (without_last (c ∷ rest)) (All-head IsLineByte b (c ∷ rest) each) (clean_without_last (c ∷ rest) (All-tail IsLineByte b (c ∷ rest) each))

blank_is_line_byte : IsLineByte 32
blank_is_line_byte = (refl, omega arith)

clean_continued : (n : ℕ) (line : List ℕ) (rest : List Joined) → All IsLineByte line → All IsCleanJoined rest → All IsCleanJoined (continued n line rest)
clean_continued n line [] clean each = All-cons IsCleanJoined (record { number = n; bytes = line }) [] clean each
clean_continued n line (next ∷ rest) clean each =
    All-cons IsCleanJoined (record { number = n; bytes = line ++ 32 ∷ next.bytes }) rest
    (All-append IsLineByte line (32 ∷ next.bytes) clean (All-cons IsLineByte 32 next.bytes blank_is_line_byte (All-head IsCleanJoined next rest each)))
    (All-tail IsCleanJoined next rest each)

clean_choice : (t : Bool) (n : ℕ) (line : List ℕ) (rest : List Joined) → All IsLineByte line → All IsCleanJoined rest
    → All IsCleanJoined (if t then continued n (without_last line) rest else record { number = n; bytes = line } ∷ rest)
clean_choice true n line rest clean each = clean_continued n (without_last line) rest (clean_without_last line clean) each
clean_choice false n line rest clean each = All-cons IsCleanJoined (record { number = n; bytes = line }) rest clean each

clean_joined : (joins : Bool) (n : ℕ) (whole : List (List ℕ)) → All IsCleanLine whole → All IsCleanJoined (joined joins n whole)
clean_joined joins n [] each = All-nil IsCleanJoined
clean_joined joins n (line ∷ rest) each =
    clean_choice (joins && ends_in_backslash line) n line (joined joins (n + 1) rest) (All-head IsCleanLine line rest each)
    (clean_joined joins (n + 1) rest (All-tail IsCleanLine line rest each))

-- Words.

name_byte : (b : ℕ) → IsLineByte b → is_blank b ≡ false → IsBlifByte b
name_byte b clean other = grind arith

abbrev IsNamePart : List ℕ → Type 0
IsNamePart part = All IsBlifByte part

parts_front : (b : ℕ) (parts : List (List ℕ)) → IsBlifByte b → All IsNamePart parts → All IsNamePart (in_front b parts)
parts_front b [] is each = All-cons IsNamePart (b ∷ []) [] (All-cons IsBlifByte b [] is (All-nil IsBlifByte)) each
parts_front b (part ∷ parts) is each =
    All-cons IsNamePart (b ∷ part) parts (All-cons IsBlifByte b part is (All-head IsNamePart part parts each)) (All-tail IsNamePart part parts each)

parts_choice : (t : Bool) (b : ℕ) (parts : List (List ℕ)) → is_blank b ≡ t → IsLineByte b → All IsNamePart parts
    → All IsNamePart (if t then [] ∷ parts else in_front b parts)
parts_choice t b parts blank clean each = grind (arith, All-cons, All-nil, parts_front, name_byte)

name_parts : (bytes : List ℕ) → All IsLineByte bytes → All IsNamePart (pieces is_blank bytes)
name_parts [] each = All-cons IsNamePart [] [] (All-nil IsBlifByte) (All-nil IsNamePart)
name_parts (b ∷ rest) each = grind (arith, parts_choice (is_blank b) b (pieces is_blank rest), All-head IsLineByte b rest each, name_parts rest (All-tail IsLineByte b rest each), All-tail IsLineByte b rest each)

filled_names : (parts : List (List ℕ)) → All IsNamePart parts → All IsBlifName (filter is_filled parts)
filled_names [] each = All-nil IsBlifName
filled_names ([] ∷ parts) each = filled_names parts (All-tail IsNamePart [] parts each)
filled_names ((b ∷ rest) ∷ parts) each = grind (arith, All-cons, All-head, filled_names parts (All-tail IsNamePart (b ∷ rest) parts each), All-tail)

abbrev pub HasNames : Line → Type 0
HasNames line = All IsBlifName line.words

names_in_words : (whole : List Joined) → All IsCleanJoined whole → All HasNames (map in_words whole)
names_in_words [] each = All-nil HasNames
names_in_words (line ∷ rest) each =
    All-cons HasNames (in_words line) (map in_words rest) (filled_names (pieces is_blank line.bytes) (name_parts line.bytes (All-head IsCleanJoined line rest each)))
    (names_in_words rest (All-tail IsCleanJoined line rest each))

logical_names : (joins : Bool) (whole : List (List ℕ)) → All IsCleanLine whole → All HasNames (logical joins whole)
logical_names joins whole each = All-filter has_words HasNames (map in_words (joined joins 1 whole)) (names_in_words (joined joins 1 whole) (clean_joined joins 1 whole each))

-- Where there are lines there is no bad byte.
pub found_is : (bad : Option ℕ) (all found : List Line) → unless_bad bad all ≡ Ok found → (bad ≡ None) × (all ≡ found)
found_is bad all found is = grind arith

pub words_are_names : (text : List ℕ) (joins : Bool) (found : List Line) → lines text joins ≡ Ok found → All HasNames found
words_are_names text joins found is = grind (arith, found_is (bad_byte 1 (physical text)) (logical joins (physical text)) found is, logical_names joins (physical text), clean_lines 1 (pieces is_lf (without_cr text)))

-- How many words there are.

abbrev pub total : {X : Type 0} → (X → ℕ) → List X → ℕ
total f [] = 0
total f (x ∷ xs) = f x + total f xs

pieces_choice_size : (t : Bool) (b : ℕ) (parts : List (List ℕ)) → total length (if t then [] ∷ parts else in_front b parts) ≤ 1 + total length parts
pieces_choice_size t b parts = grind arith

pieces_size : (cuts : ℕ → Bool) (bytes : List ℕ) → total length (pieces cuts bytes) ≤ length bytes
pieces_size cuts [] = omega arith
pieces_size cuts (b ∷ rest) = grind (arith, pieces_choice_size, pieces_size cuts rest)

filled_count : (parts : List (List ℕ)) → length (filter is_filled parts) ≤ total length parts
filled_count [] = omega arith
filled_count ([] ∷ parts) = let more = filled_count parts in omega arith
filled_count ((b ∷ rest) ∷ parts) = let more = filled_count parts in omega arith

words_count : (bytes : List ℕ) → length (words_of bytes) ≤ length bytes
words_count bytes = let few = filled_count (pieces is_blank bytes) in let size = pieces_size is_blank bytes in omega arith

abbrev pub word_count : Line → ℕ
word_count line = length line.words

abbrev byte_count : Joined → ℕ
byte_count line = length line.bytes

in_words_count : (whole : List Joined) → total word_count (map in_words whole) ≤ total byte_count whole
in_words_count [] = omega arith
in_words_count (line ∷ rest) = let here = words_count line.bytes in let more = in_words_count rest in omega arith

has_words_choice : (t : Bool) (line : Line) (rest : List Line) → total word_count (if t then line ∷ rest else rest) ≤ word_count line + total word_count rest
has_words_choice t line rest = grind arith

has_words_count : (whole : List Line) → total word_count (filter has_words whole) ≤ total word_count whole
has_words_count [] = omega arith
has_words_count (line ∷ rest) = grind (arith, has_words_choice, has_words_count rest)

without_last_size : (line : List ℕ) → ends_in_backslash line ≡ true → length (without_last line) + 1 ≡ length line
without_last_size [] ends = absurd (cc ends)
without_last_size (b ∷ []) ends = omega arith
without_last_size (b ∷ c ∷ rest) ends = let more = without_last_size (c ∷ rest) ends in omega arith

continued_size : (n : ℕ) (line : List ℕ) (rest : List Joined) → total byte_count (continued n line rest) ≤ length line + 1 + total byte_count rest
continued_size n line [] = omega arith
continued_size n line (next ∷ rest) = let e = length-append line (32 ∷ next.bytes) in omega arith

joined_choice_size : (t : Bool) (n : ℕ) (line : List ℕ) (rest : List Joined) → (t ≡ true → ends_in_backslash line ≡ true)
    → total byte_count (if t then continued n (without_last line) rest else record { number = n; bytes = line } ∷ rest) ≤ length line + total byte_count rest
joined_choice_size t n line rest ends = grind (arith, without_last_size, continued_size)

joined_size : (joins : Bool) (n : ℕ) (whole : List (List ℕ)) → total byte_count (joined joins n whole) ≤ total length whole
joined_size joins n [] = omega arith
joined_size joins n (line ∷ rest) = grind (arith, joined_choice_size, second_of_and, joined_size joins (n + 1) rest)

hash_choice_size : (t : Bool) (b : ℕ) (rest : List ℕ) → length (if t then [] else b ∷ rest) ≤ 1 + length rest
hash_choice_size t b rest = grind arith

before_hash_size : (line : List ℕ) → length (before_hash line) ≤ length line
before_hash_size [] = omega arith
before_hash_size (b ∷ rest) = let here = hash_choice_size (b == 35) b (before_hash rest) in let more = before_hash_size rest in omega arith

cleaned_size : (whole : List (List ℕ)) → total length (map before_hash whole) ≤ total length whole
cleaned_size [] = omega arith
cleaned_size (line ∷ rest) = let here = before_hash_size line in let more = cleaned_size rest in omega arith

cr_choice_size : (t : Bool) (b : ℕ) (rest : List ℕ) → length (if t then rest else b ∷ rest) ≤ 1 + length rest
cr_choice_size t b rest = grind arith

without_cr_size : (text : List ℕ) → length (without_cr text) ≤ length text
without_cr_size [] = omega arith
without_cr_size (b ∷ rest) = grind (arith, cr_choice_size, without_cr_size rest)

pub words_are_few : (text : List ℕ) (joins : Bool) (found : List Line) → lines text joins ≡ Ok found → total word_count found ≤ length text
words_are_few text joins found is = grind (arith, found_is, has_words_count, in_words_count, joined_size, cleaned_size, pieces_size, without_cr_size)
