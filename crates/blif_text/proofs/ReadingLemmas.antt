-- A reader that goes from byte to byte comes to the lines of the text.
use Rattle.std.proofs.Common.{◌≡◌, ℕ, ◌+◌, List, [], ◌∷◌, ◌++◌, true, false, refl, sym, ap, subst, ◌∙◌, append_assoc, append-nil, arith}
use Rattle.std.specs.Prelude.{filter, map, Bool, ◌==◌, ◌&&◌, ◌||◌, if◌then◌else◌, Some, None, Ok, Err}
use Rattle.std.specs.List.{list_all}
use Rattle.std.specs.declared.option.Option.{Option}
use Rattle.std.specs.declared.result.Result.{Result}
use Rattle.std.proofs.lemmas.List.Elements.{filter-append}
use Rattle.std.proofs.lemmas.Bool.Decides.{nat_tests}
use Rattle.blif_text.specs.Texts.{pieces, is_blank, is_lf, is_allowed, is_printed, ends_in_backslash, without_last, Joined, Line, joined, continued, in_words, has_words, bad_byte, unless_bad, before_hash, lines, logical, without_cr}
use Rattle.blif_text.specs.Reading.{State, start, put, end_word, begin_comment, join_line, close_line, line_break, step, finish, word_if_filled, line_if_filled}
use Rattle.blif_text.proofs.Pieces.{first_of, others_of, pieces_here, pieces_whole, NoBlank, NoBlank-put, NoBlank-without_last, words_behind, words_alone, ends_behind, without_last_behind}

-- the first line with its number and the words in front of its own
abbrev pub under : ℕ → List (List ℕ) → List Line → List Line
under n words [] = []
under n words (line ∷ rest) = record { number = n; words = words ++ line.words } ∷ rest

-- the logical lines of the state and of the physical lines that are left, of which the first is the rest of the current one
abbrev pub behind : Bool → State → List ℕ → List (List ℕ) → List Line
behind joins s line rest = s.done ++ filter has_words (under s.first s.words (map in_words (joined joins s.number ((s.run ++ line) ∷ rest))))

abbrev pub answer : Bool → State → List ℕ → List (List ℕ) → Result (List Line) ℕ
answer joins s line rest = unless_bad (bad_byte s.number (line ∷ rest)) (behind joins s line rest)

abbrev pub line_left : Bool → List ℕ → List ℕ
line_left comment line = if comment then [] else before_hash line

-- what the definition says of a text, where what was read of it left this state
abbrev pub meaning : Bool → State → List ℕ → Result (List Line) ℕ
meaning joins s rest = answer joins s (line_left s.comment (first_of (pieces is_lf rest))) (map before_hash (others_of (pieces is_lf rest)))

-- A byte of a word.

bad_front : (n b : ℕ) (line : List ℕ) (rest : List (List ℕ)) → is_allowed b ≡ true → bad_byte n ((b ∷ line) ∷ rest) ≡ bad_byte n (line ∷ rest)
bad_front n b line rest allowed = ap (λ (t : Bool). if (t && list_all is_allowed line) then bad_byte (n + 1) rest else Some n) allowed

answer_put : (joins : Bool) (s : State) (b : ℕ) (line : List ℕ) (rest : List (List ℕ)) → is_allowed b ≡ true
    → answer joins s (b ∷ line) rest ≡ answer joins (put b s) line rest
answer_put joins s b line rest allowed = grind (arith, bad_front, append_assoc)

-- The end of a word.

joins_behind : (joins : Bool) (run : List ℕ) (b : ℕ) (line : List ℕ) → (b == 92) ≡ false → (joins && ends_in_backslash (run ++ b ∷ line)) ≡ (joins && ends_in_backslash line)
joins_behind joins run b line other = ap (λ t. joins && t) (ends_behind run b line other)

-- the first line of a choice, where the rest is the same
abbrev pub chosen : Bool → ℕ → List ℕ → List Joined → List Joined
chosen t n line rest = if t then continued n (without_last line) rest else record { number = n; bytes = line } ∷ rest

under_words : (n m : ℕ) (words : List (List ℕ)) (run : List ℕ) (b : ℕ) (bytes : List ℕ) (rest : List Line) → NoBlank run → is_blank b ≡ true
    → under n words (in_words (record { number = m; bytes = run ++ b ∷ bytes }) ∷ rest)
    ≡ under n (words ++ word_if_filled run) (in_words (record { number = m; bytes = bytes }) ∷ rest)
under_words n m words run b bytes rest none blank = grind (arith, words_behind, append_assoc)

continued_behind : (n m : ℕ) (words : List (List ℕ)) (run : List ℕ) (b : ℕ) (bytes : List ℕ) (rest : List Joined) → NoBlank run → is_blank b ≡ true
    → under n words (map in_words (continued m (run ++ b ∷ bytes) rest))
    ≡ under n (words ++ word_if_filled run) (map in_words (continued m bytes rest))
continued_behind n m words run b bytes [] none blank = under_words n m words run b bytes [] none blank
continued_behind n m words run b bytes (next ∷ rest) none blank = grind (arith, append_assoc run (b ∷ bytes) (32 ∷ next.bytes), under_words n m words run b (bytes ++ 32 ∷ next.bytes) (map in_words rest) none blank)

chosen_behind : (joins t : Bool) (n m : ℕ) (words : List (List ℕ)) (run : List ℕ) (b : ℕ) (line : List ℕ) (rest : List Joined) → NoBlank run → is_blank b ≡ true
    → t ≡ (joins && ends_in_backslash line)
    → under n words (map in_words (chosen t m (run ++ b ∷ line) rest))
    ≡ under n (words ++ word_if_filled run) (map in_words (chosen t m line rest))
chosen_behind joins false n m words run b line rest none blank is = under_words n m words run b line (map in_words rest) none blank
chosen_behind true true n m words run b [] rest none blank is = cc
chosen_behind false true n m words run b line rest none blank is = cc
chosen_behind true true n m words run b (c ∷ line) rest none blank is = grind (arith, without_last_behind, continued_behind)

answer_blank : (joins : Bool) (s : State) (b : ℕ) (line : List ℕ) (rest : List (List ℕ)) → NoBlank s.run → is_blank b ≡ true → is_allowed b ≡ true → (b == 92) ≡ false
    → answer joins s (b ∷ line) rest ≡ answer joins (end_word s) line rest
answer_blank joins s b line rest none blank allowed other = grind (arith, bad_front, joins_behind, chosen_behind)

-- The end of a line.

chosen_whole : (t : Bool) (n : ℕ) (line : List ℕ) (rest : List Joined)
    → (bytes : List ℕ) × (more : List Joined) × (chosen t n line rest ≡ record { number = n; bytes = bytes } ∷ more)
chosen_whole true n line [] = (without_last line, [], refl)
chosen_whole true n line (next ∷ rest) = (without_last line ++ 32 ∷ next.bytes, rest, refl)
chosen_whole false n line rest = (line, rest, refl)

-- There is a first logical line, with the first number.
joined_whole : (joins : Bool) (n : ℕ) (line : List ℕ) (rest : List (List ℕ))
    → (bytes : List ℕ) × (more : List Joined) × (joined joins n (line ∷ rest) ≡ record { number = n; bytes = bytes } ∷ more)
joined_whole joins n line rest = chosen_whole (joins && ends_in_backslash line) n line (joined joins (n + 1) rest)

under_nothing : (joins : Bool) (n : ℕ) (line : List ℕ) (rest : List (List ℕ))
    → under n [] (map in_words (joined joins n (line ∷ rest))) ≡ map in_words (joined joins n (line ∷ rest))
under_nothing joins n line rest = grind arith

join_under : (n m k : ℕ) (words : List (List ℕ)) (run bytes : List ℕ) (more : List Joined) (all : List Joined) → NoBlank run
    → all ≡ record { number = k; bytes = bytes } ∷ more
    → under n words (map in_words (continued m run all)) ≡ under n (words ++ word_if_filled run) (map in_words all)
join_under n m k words run bytes more all none is = grind (arith, under_words n m words run 32 bytes (map in_words more) none)

has_front : (line : Line) (rest : List Line) → filter has_words (line ∷ rest) ≡ filter has_words (line ∷ []) ++ filter has_words rest
has_front line rest = filter-append has_words (line ∷ []) rest

behind_line : (joins t : Bool) (s : State) (line : List ℕ) (rest : List (List ℕ)) → NoBlank s.run
    → s.done ++ filter has_words (under s.first s.words (map in_words (chosen t s.number s.run (joined joins (s.number + 1) (line ∷ rest)))))
    ≡ behind joins (if t then join_line s else close_line s) line rest
behind_line joins true s line rest none =
    let whole = joined_whole joins (s.number + 1) line rest in
    ap (λ found. s.done ++ filter has_words found)
    (join_under s.first s.number (s.number + 1) s.words (without_last s.run) whole.0 whole.1 (joined joins (s.number + 1) (line ∷ rest)) (NoBlank-without_last s.run none) whole.2)
behind_line joins false s line rest none = grind (arith, words_alone, has_front, append_assoc, under_nothing)

line_number : (t : Bool) (s : State) → (let after : State = if t then join_line s else close_line s in after.number) ≡ s.number + 1
line_number t s = grind arith

answer_line : (joins : Bool) (s : State) (line : List ℕ) (rest : List (List ℕ)) → NoBlank s.run
    → answer joins s [] (line ∷ rest) ≡ answer joins (line_break joins s) line rest
answer_line joins s line rest none = grind (arith, append-nil, behind_line, line_number)

-- The end of the text.

behind_end : (t : Bool) (s : State) → NoBlank s.run
    → s.done ++ filter has_words (under s.first s.words (map in_words (chosen t s.number s.run [])))
    ≡ (let last : State = if t then join_line s else close_line s in last.done ++ line_if_filled last.first last.words)
behind_end t s none = grind (arith, words_alone, NoBlank-without_last, append-nil)

answer_end : (joins : Bool) (s : State) → NoBlank s.run → answer joins s [] [] ≡ Ok (finish joins s)
answer_end joins s none = grind (arith, append-nil, behind_end)

-- From byte to byte.

line_left_nothing : (comment : Bool) → line_left comment [] ≡ []
line_left_nothing comment = grind arith

line_goes_on : (t : Bool) (s : State) → (let after : State = if t then join_line s else close_line s in after.comment) ≡ false
line_goes_on t s = grind arith

at_lf : (joins : Bool) (s : State) (b : ℕ) (rest : List ℕ) → NoBlank s.run → is_lf b ≡ true
    → meaning joins s (b ∷ rest) ≡ meaning joins (line_break joins s) rest
at_lf joins s b rest none lf = grind (arith, first_of, pieces_here, line_left_nothing, pieces_whole, answer_line, line_goes_on)

in_comment : (joins : Bool) (s : State) (b : ℕ) (rest : List ℕ) → is_lf b ≡ false → s.comment ≡ true
    → meaning joins s (b ∷ rest) ≡ meaning joins s rest
in_comment joins s b rest other comment = grind arith

at_plain : (joins : Bool) (s : State) (b : ℕ) (rest : List ℕ) (hash : Bool) → is_lf b ≡ false → s.comment ≡ false → (b == 35) ≡ hash
    → meaning joins s (b ∷ rest)
    ≡ answer joins s (if hash then [] else b ∷ before_hash (first_of (pieces is_lf rest))) (map before_hash (others_of (pieces is_lf rest)))
at_plain joins s b rest hash other comment is = grind arith

no_comment : (joins : Bool) (s : State) (rest : List ℕ) → s.comment ≡ false
    → answer joins s (before_hash (first_of (pieces is_lf rest))) (map before_hash (others_of (pieces is_lf rest))) ≡ meaning joins s rest
no_comment joins s rest comment = grind arith

no_backslash : (b : ℕ) → is_blank b ≡ true → (b == 92) ≡ false
no_backslash b blank = grind (arith, nat_tests)

allowed_blank : (b : ℕ) → is_blank b ≡ true → is_allowed b ≡ true
allowed_blank b blank = ap (λ t. t || is_printed b) blank

allowed_other : (b : ℕ) (printed : Bool) → is_blank b ≡ false → is_printed b ≡ printed → is_allowed b ≡ printed
allowed_other b printed other is = ap (λ t. t || is_printed b) other ∙ is

-- what the definition says after a step
abbrev pub after : Bool → State → List ℕ → Option State → Result (List Line) ℕ
after joins s rest None = Err s.number
after joins s rest (Some next) = meaning joins next rest

-- the choice of a step, by its tests
abbrev pub choice : Bool → State → ℕ → Bool → Bool → Bool → Bool → Bool → Option State
choice joins s b lf comment hash blank printed =
    if lf then Some (line_break joins s)
    else (if comment then Some s
    else (if hash then Some (begin_comment s)
    else (if blank then Some (end_word s)
    else (if printed then Some (put b s) else None))))

pub record Tests (s : State) (b : ℕ) (lf comment hash blank printed : Bool) : Type 0 where
  pub at_lf : is_lf b ≡ lf
  pub at_comment : s.comment ≡ comment
  pub at_hash : (b == 35) ≡ hash
  pub at_blank : is_blank b ≡ blank
  pub at_printed : is_printed b ≡ printed

meaning_choice : (joins : Bool) (s : State) (b : ℕ) (rest : List ℕ) (lf comment hash blank printed : Bool) → NoBlank s.run → Tests s b lf comment hash blank printed
    → meaning joins s (b ∷ rest) ≡ after joins s rest (choice joins s b lf comment hash blank printed)
meaning_choice joins s b rest true comment hash blank printed none t = at_lf joins s b rest none t.at_lf
meaning_choice joins s b rest false true hash blank printed none t = in_comment joins s b rest t.at_lf t.at_comment
meaning_choice joins s b rest false false true blank printed none t = at_plain joins s b rest true t.at_lf t.at_comment t.at_hash
meaning_choice joins s b rest false false false true printed none t = grind (arith, at_plain, answer_blank, first_of, allowed_blank, no_backslash, no_comment)
meaning_choice joins s b rest false false false false true none t = grind (arith, at_plain, answer_put, first_of, allowed_other, no_comment)
meaning_choice joins s b rest false false false false false none t = grind arith

none_line : (t : Bool) (s : State) → (let after : State = if t then join_line s else close_line s in NoBlank after.run)
none_line t s = grind arith

abbrev NoBlankIn : Option State → Type 0
NoBlankIn None = Unit {0}
NoBlankIn (Some s) = NoBlank s.run

none_choice : (joins : Bool) (s : State) (b : ℕ) (lf comment hash blank printed : Bool) → NoBlank s.run → is_blank b ≡ blank
    → NoBlankIn (choice joins s b lf comment hash blank printed)
none_choice joins s b lf comment hash blank printed none is = grind (arith, none_line, NoBlank-put)

-- The state and the rest of the text have the lines of the text.
pub record Reads (text : List ℕ) (joins : Bool) (s : State) (rest : List ℕ) : Type 0 where
  pub whole : meaning joins s rest ≡ lines text joins
  pub no_blank : NoBlank s.run

pub reads_start : (text : List ℕ) (joins : Bool) → Reads text joins start (without_cr text)
reads_start text joins = grind arith

pub step_meaning : (joins : Bool) (s : State) (b : ℕ) (rest : List ℕ) → NoBlank s.run → meaning joins s (b ∷ rest) ≡ after joins s rest (step joins s b)
step_meaning joins s b rest none = grind (arith, meaning_choice, at_lf)

pub none_step : (joins : Bool) (s next : State) (b : ℕ) → NoBlank s.run → step joins s b ≡ Some next → NoBlank next.run
none_step joins s next b none is = subst NoBlankIn is (none_choice joins s b (is_lf b) s.comment (b == 35) (is_blank b) (is_printed b) none refl)

pub reads_step : (text : List ℕ) (joins : Bool) (s next : State) (b : ℕ) (rest : List ℕ) → Reads text joins s (b ∷ rest) → step joins s b ≡ Some next → Reads text joins next rest
reads_step text joins s next b rest reads is = grind (arith, step_meaning joins s b rest reads.no_blank, none_step joins s next b reads.no_blank is)

pub reads_bad : (text : List ℕ) (joins : Bool) (s : State) (b : ℕ) (rest : List ℕ) → Reads text joins s (b ∷ rest) → step joins s b ≡ None → lines text joins ≡ Err s.number
reads_bad text joins s b rest reads is = grind arith

nothing_left : (joins : Bool) (s : State) → meaning joins s [] ≡ answer joins s [] []
nothing_left joins s = ap (λ line. answer joins s line []) (line_left_nothing s.comment)

pub meaning_end : (joins : Bool) (s : State) → NoBlank s.run → meaning joins s [] ≡ Ok (finish joins s)
meaning_end joins s none = nothing_left joins s ∙ answer_end joins s none

pub reads_end : (text : List ℕ) (joins : Bool) (s : State) → Reads text joins s [] → lines text joins ≡ Ok (finish joins s)
reads_end text joins s reads = sym reads.whole ∙ meaning_end joins s reads.no_blank
