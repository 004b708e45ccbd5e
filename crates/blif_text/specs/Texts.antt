-- The logical lines of a text: the text is cut into physical lines as a whole, each is cleaned by itself, and runs of them are joined.
use Rattle.std.specs.Prelude.{ℕ, Bool, true, false, List, [], ◌∷◌, ◌++◌, ◌&&◌, ◌||◌, ◌==◌, ◌+◌, nat_le, filter, map, count_by, if◌then◌else◌, Some, None, Ok, Err}
use Rattle.std.specs.List.{list_all}
use Rattle.std.specs.declared.option.Option.{Option}
use Rattle.std.specs.declared.result.Result.{Result}

-- Lists cut at bytes, for physical lines and for words.

abbrev pub in_front : ℕ → List (List ℕ) → List (List ℕ)
in_front b [] = (b ∷ []) ∷ []
in_front b (piece ∷ pieces) = (b ∷ piece) ∷ pieces

-- the pieces between the bytes that pass the test
abbrev pub pieces : (ℕ → Bool) → List ℕ → List (List ℕ)
pieces cuts [] = [] ∷ []
pieces cuts (b ∷ rest) = if cuts b then [] ∷ pieces cuts rest else in_front b (pieces cuts rest)

abbrev pub is_filled : {X : Type 0} → List X → Bool
is_filled [] = false
is_filled (x ∷ rest) = true

-- Physical lines.

abbrev pub begins_with : ℕ → List ℕ → Bool
begins_with b [] = false
begins_with b (first ∷ rest) = first == b

-- without each CR that stands directly before an LF
abbrev pub without_cr : List ℕ → List ℕ
without_cr [] = []
without_cr (b ∷ rest) = if b == 13 && begins_with 10 rest then without_cr rest else b ∷ without_cr rest

-- without `#` and everything after it
abbrev pub before_hash : List ℕ → List ℕ
before_hash [] = []
before_hash (b ∷ rest) = if b == 35 then [] else b ∷ before_hash rest

abbrev pub is_lf : ℕ → Bool
is_lf b = b == 10

-- the physical lines without comments
abbrev pub physical : List ℕ → List (List ℕ)
physical text = map before_hash (pieces is_lf (without_cr text))

-- blank, tab
abbrev pub is_blank : ℕ → Bool
is_blank b = (b == 32) || (b == 9)

abbrev pub is_printed : ℕ → Bool
is_printed b = nat_le 33 b && nat_le b 126

abbrev pub is_allowed : ℕ → Bool
is_allowed b = is_blank b || is_printed b

-- the number of the first line with a byte that isn't allowed, where they are numbered from n
abbrev pub bad_byte : ℕ → List (List ℕ) → Option ℕ
bad_byte n [] = None
bad_byte n (line ∷ rest) = if list_all is_allowed line then bad_byte (n + 1) rest else Some n

-- Logical lines.

pub record Joined : Type 0 where
  pub number : ℕ
  pub bytes : List ℕ

pub record Line : Type 0 where
  pub number : ℕ
  pub words : List (List ℕ)

abbrev pub ends_in_backslash : List ℕ → Bool
ends_in_backslash [] = false
ends_in_backslash (b ∷ []) = b == 92
ends_in_backslash (b ∷ c ∷ rest) = ends_in_backslash (c ∷ rest)

abbrev pub without_last : List ℕ → List ℕ
without_last [] = []
without_last (b ∷ []) = []
without_last (b ∷ c ∷ rest) = b ∷ without_last (c ∷ rest)

-- a line and the logical line that it goes on in, with one blank between
abbrev pub continued : ℕ → List ℕ → List Joined → List Joined
continued n line [] = record { number = n; bytes = line } ∷ []
continued n line (next ∷ rest) = record { number = n; bytes = line ++ 32 ∷ next.bytes } ∷ rest

-- the physical lines, numbered from n, with a line that ends in `\` joined to the next where joins are on
abbrev pub joined : Bool → ℕ → List (List ℕ) → List Joined
joined joins n [] = []
joined joins n (line ∷ rest) =
    if joins && ends_in_backslash line
    then continued n (without_last line) (joined joins (n + 1) rest)
    else record { number = n; bytes = line } ∷ joined joins (n + 1) rest

-- the longest runs of bytes without blank and tab
abbrev pub words_of : List ℕ → List (List ℕ)
words_of bytes = filter is_filled (pieces is_blank bytes)

abbrev pub in_words : Joined → Line
in_words line = record { number = line.number; words = words_of line.bytes }

abbrev pub has_words : Line → Bool
has_words line = is_filled line.words

abbrev pub logical : Bool → List (List ℕ) → List Line
logical joins physical_lines = filter has_words (map in_words (joined joins 1 physical_lines))

abbrev pub unless_bad : Option ℕ → List Line → Result (List Line) ℕ
unless_bad (Some n) found = Err n
unless_bad None found = Ok found

-- the logical lines, or the number of the first physical line with a bad byte
abbrev pub lines : List ℕ → Bool → Result (List Line) ℕ
lines text joins = unless_bad (bad_byte 1 (physical text)) (logical joins (physical text))

-- the number of the physical line in which the text ends
abbrev pub end_number : List ℕ → ℕ
end_number text = count_by is_lf text + 1
