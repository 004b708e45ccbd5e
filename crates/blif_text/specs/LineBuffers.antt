-- Lines as their words in one list with a mark where each line ends.
use Rattle.std.specs.Prelude.{ℕ, List, drop, length, slice_index_or, ◌==◌, ◌-◌, if◌then◌else◌}
use Rattle.blif_text.specs.Texts.{Line}
use Rattle.blif_text.specs.WordBuffers.{cut, last_end, Rises}
use Rattle.blif_text.specs.declared.marks.Mark.{Mark}

-- lines that are ended, and the words and bytes behind them
pub record Stored : Type 0 where
  pub done : List Line
  pub words : List (List ℕ)
  pub run : List ℕ

abbrev pub end_of : Mark → ℕ
end_of m = m.end

abbrev pub line_of : Mark → List (List ℕ) → Line
line_of m words = record { number = m.number; words = words }

unfoldable pub done_of : List (List ℕ) → List Mark → List Line
done_of parts marks = cut end_of line_of parts 0 marks

unfoldable pub words_left : List (List ℕ) → List Mark → List (List ℕ)
words_left parts marks = drop (last_end end_of 0 marks) parts

pub record AreMarks (parts : List (List ℕ)) (marks : List Mark) : Type 0 where
  pub rises : Rises end_of 0 marks (length parts)

abbrev pub mark_at : List Mark → ℕ → Mark
mark_at marks i = slice_index_or marks i (record { number = 0; end = 0 })

-- how many words there are before a line
abbrev pub mark_begins : List Mark → ℕ → ℕ
mark_begins marks i = if i == 0 then 0 else end_of (mark_at marks (i - 1))
