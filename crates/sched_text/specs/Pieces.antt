-- A text, read piece by piece: each piece but the last ends with a line.
use Rattle.std.specs.Prelude.{◌≡◌, ℕ, ◌+◌, ◌-◌, ◌<◌, ◌≤◌, List, ◌++◌, length, map, filter, slice_index_or, false, ◌⊎◌}
use Rattle.std.specs.declared.option.Option.{Option}
use Rattle.blif_text.specs.Texts.{Line, physical, joined, in_words, has_words, bad_byte}

-- the lines of a text whose physical lines are numbered from n
abbrev pub lines_from : ℕ → List ℕ → List Line
lines_from n text = filter has_words (map in_words (joined false n (physical text)))

-- the first line with a bad byte, where they are numbered from n
abbrev pub bad_line : ℕ → List ℕ → Option ℕ
bad_line n text = bad_byte n (physical text)

-- a line behind so many physical lines
abbrev pub line_behind : ℕ → Line → Line
line_behind before line = record { number = before + line.number; words = line.words }

-- the text may be cut here: behind a line, or at its end
abbrev pub IsCut : List ℕ → ℕ → Type 0
IsCut text n = (n ≡ length text) ⊎ (slice_index_or text (n - 1) 0 ≡ 10)

-- After a piece without a bad byte, so many physical lines are done, and the text has this left.
pub record IsNext (before after : ℕ) (text left : List ℕ) (piece : List Line) : Type 0 where
  pub lines : lines_from (before + 1) text ≡ piece ++ lines_from (after + 1) left
  pub bad : bad_line (before + 1) text ≡ bad_line (after + 1) left
  pub shorter : length left < length text
  pub small : after + length left ≤ before + length text
