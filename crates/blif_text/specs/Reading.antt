-- What a reader that goes from byte to byte knows, and what it does at a byte.
use Rattle.std.specs.Prelude.{ℕ, Bool, true, false, List, [], ◌∷◌, ◌++◌, ◌&&◌, ◌==◌, ◌+◌, filter, if◌then◌else◌, Some, None}
use Rattle.std.specs.declared.option.Option.{Option}
use Rattle.blif_text.specs.Texts.{Line, is_filled, has_words, is_lf, is_blank, is_printed, ends_in_backslash, without_last}

pub record State : Type 0 where
  -- the logical lines that are ended and have words
  pub done : List Line
  -- the words of the current logical line that are ended, and the bytes of the word that isn't
  pub words : List (List ℕ)
  pub run : List ℕ
  -- the numbers of the current logical line and of the current physical line
  pub first : ℕ
  pub number : ℕ
  -- whether the rest of the physical line is a comment
  pub comment : Bool

abbrev pub start : State
start = record { done = []; words = []; run = []; first = 1; number = 1; comment = false }

-- a run of bytes as a word, where it isn't empty
abbrev pub word_if_filled : List ℕ → List (List ℕ)
word_if_filled run = filter is_filled (run ∷ [])

-- a logical line, where it has words
abbrev pub line_if_filled : ℕ → List (List ℕ) → List Line
line_if_filled n words = filter has_words (record { number = n; words = words } ∷ [])

abbrev pub put : ℕ → State → State
put b s = record s { run = s.run ++ b ∷ [] }

abbrev pub put_all : List ℕ → State → State
put_all bytes s = record s { run = s.run ++ bytes }

abbrev pub end_word : State → State
end_word s = record s { words = s.words ++ word_if_filled s.run; run = [] }

abbrev pub begin_comment : State → State
begin_comment s = record s { comment = true }

-- the end of a physical line that is joined to the next
abbrev pub join_line : State → State
join_line s = record s { words = s.words ++ word_if_filled (without_last s.run); run = []; number = s.number + 1; comment = false }

-- the end of a logical line
abbrev pub close_line : State → State
close_line s = record {
  done = s.done ++ line_if_filled s.first (s.words ++ word_if_filled s.run);
  words = [];
  run = [];
  first = s.number + 1;
  number = s.number + 1;
  comment = false;
}

abbrev pub line_break : Bool → State → State
line_break joins s = if joins && ends_in_backslash s.run then join_line s else close_line s

-- what it does at a byte, or nothing where the byte isn't allowed
abbrev pub step : Bool → State → ℕ → Option State
step joins s b =
    if is_lf b then Some (line_break joins s)
    else (if s.comment then Some s
    else (if b == 35 then Some (begin_comment s)
    else (if is_blank b then Some (end_word s)
    else (if is_printed b then Some (put b s) else None))))

-- the lines where the text ends
abbrev pub finish : Bool → State → List Line
finish joins s = let last = line_break joins s in last.done ++ line_if_filled last.first last.words
