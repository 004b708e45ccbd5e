-- Lines as words with marks.
use Rattle.std.proofs.Common.{◌≡◌, ◌≢◌, ℕ, suc, zero, ◌+◌, ◌-◌, ◌<◌, ◌≤◌, List, [], ◌∷◌, ◌++◌, take, drop, length, get_or, refl, sym, ap, ◌∙◌, arith, length-append, length-drop, drop_of_length-le, append-nil, true}
use Rattle.std.proofs.lemmas.List.{drop-append-le}
use Rattle.std.proofs.lemmas.Grind.{common_steps}
use Rattle.std.proofs.lemmas.Bool.{ne_eqb}
use Rattle.std.specs.Prelude.{slice_range}
use Rattle.blif_text.specs.WordBuffers.{last_end}
use Rattle.blif_text.specs.Texts.{ends_in_backslash}
use Rattle.blif_text.specs.Reading.{word_if_filled, line_if_filled}
use Rattle.blif_text.specs.declared.marks.Mark.{Mark}
use Rattle.blif_text.specs.Lines.{line_at}
use Rattle.blif_text.specs.LineBuffers.{end_of, line_of, done_of, words_left, AreMarks, mark_at, mark_begins}
use Rattle.blif_text.proofs.CutLemmas.{rises_bound, rises_to, rises_end, last_end_end, cut_more, cut_end, length_cut, end_before, begins_first, begins_later, cut_at, part_within}

pub are_marks_none : (parts : List (List ℕ)) → parts ≡ [] → AreMarks parts []
are_marks_none parts is = record { rises = omega arith }

pub done_none : (parts : List (List ℕ)) → done_of parts [] ≡ []
unfolding done_of
done_none parts = refl

pub words_none : (parts : List (List ℕ)) → words_left parts [] ≡ parts
unfolding words_left
words_none parts = grind (arith, common_steps)

-- A word more.

pub word_filled : (run : List ℕ) → 0 < length run → word_if_filled run ≡ run ∷ []
word_filled [] some = absurd (omega arith)
word_filled (x ∷ xs) some = refl

pub word_empty : (run : List ℕ) → length run ≡ 0 → word_if_filled run ≡ []
word_empty [] none = refl
word_empty (x ∷ xs) none = absurd (omega arith)

pub are_marks_more : (parts : List (List ℕ)) (marks : List Mark) (word : List ℕ) → AreMarks parts marks → AreMarks (parts ++ word ∷ []) marks
are_marks_more parts marks word are = grind (arith, rises_bound, rises_to, length-append)

pub done_more : (parts : List (List ℕ)) (marks : List Mark) (word : List ℕ) → AreMarks parts marks → done_of (parts ++ word ∷ []) marks ≡ done_of parts marks
unfolding done_of
done_more parts marks word are = cut_more end_of line_of parts (word ∷ []) 0 marks are.rises

pub words_more : (parts : List (List ℕ)) (marks : List Mark) (word : List ℕ) → AreMarks parts marks → words_left (parts ++ word ∷ []) marks ≡ words_left parts marks ++ word ∷ []
unfolding words_left
words_more parts marks word are = drop-append-le (last_end end_of 0 marks) parts (word ∷ []) ((rises_bound end_of 0 marks (length parts) are.rises).1)

-- The end of a line.

pub line_filled : (n : ℕ) (words : List (List ℕ)) → 0 < length words → line_if_filled n words ≡ record { number = n; words = words } ∷ []
line_filled n [] some = absurd (omega arith)
line_filled n (w ∷ ws) some = refl

pub line_empty : (n : ℕ) (words : List (List ℕ)) → length words ≡ 0 → line_if_filled n words ≡ []
line_empty n [] none = refl
line_empty n (w ∷ ws) none = absurd (omega arith)

pub words_length : (parts : List (List ℕ)) (marks : List Mark) → AreMarks parts marks → length (words_left parts marks) + last_end end_of 0 marks ≡ length parts
unfolding words_left
words_length parts marks are = grind (arith, rises_bound, length-drop)

pub are_marks_end : (parts : List (List ℕ)) (marks : List Mark) (m : Mark) → AreMarks parts marks → m.end ≡ length parts → AreMarks parts (marks ++ m ∷ [])
are_marks_end parts marks m are is = record { rises = rises_end end_of 0 marks m (length parts) are.rises is }

pub done_end : (parts : List (List ℕ)) (marks : List Mark) (m : Mark) → AreMarks parts marks → m.end ≡ length parts
    → done_of parts (marks ++ m ∷ []) ≡ done_of parts marks ++ line_of m (words_left parts marks) ∷ []
unfolding done_of words_left
done_end parts marks m are is = cut_end end_of line_of parts 0 marks m are.rises is

pub words_end : (parts : List (List ℕ)) (marks : List Mark) (m : Mark) → m.end ≡ length parts → words_left parts (marks ++ m ∷ []) ≡ []
unfolding words_left
words_end parts marks m is = grind (arith, last_end_end, drop_of_length-le)

-- Lines at a place.

pub length_done : (parts : List (List ℕ)) (marks : List Mark) → length (done_of parts marks) ≡ length marks
unfolding done_of
length_done parts marks = length_cut end_of line_of parts 0 marks

pub last_mark_is : (from : ℕ) (marks : List Mark) (d : Mark) → 0 < length marks → (get_or marks (length marks - 1) d).end ≡ last_end end_of from marks
last_mark_is from [] d some = absurd (omega arith)
last_mark_is from (x ∷ []) d some = refl
last_mark_is from (x ∷ y ∷ ys) d some = grind (arith, last_mark_is x.end (y ∷ ys) d)

begins_is : (marks : List Mark) (k : ℕ) → k < length marks → end_before end_of 0 marks k ≡ mark_begins marks k
begins_is marks zero inside = begins_first end_of 0 marks
begins_is marks (suc k) inside =
    let e : suc k - 1 ≡ k = omega arith in
    let differs : suc k ≢ 0 = omega arith in
    let none : Mark = record { number = 0; end = 0 } in
    grind (arith, begins_later end_of 0 marks k none, ne_eqb (suc k) 0 differs)

pub record LineAt (parts : List (List ℕ)) (marks : List Mark) (i from : ℕ) : Type 0 where
  pub low : from ≤ (mark_at marks i).end
  pub high : (mark_at marks i).end ≤ length parts
  pub line : line_at (done_of parts marks) i ≡ line_of (mark_at marks i) (take ((mark_at marks i).end - from) (drop from parts))

pub line_is : (parts : List (List ℕ)) (marks : List Mark) (i : ℕ) → AreMarks parts marks → i < length marks → LineAt parts marks i (mark_begins marks i)
unfolding done_of
line_is parts marks i are inside = grind (arith, part_within end_of 0 marks (length parts) i, begins_is marks i inside, cut_at end_of line_of parts 0 marks i)

-- Under names that goals show.

pub ends_filled : (run : List ℕ) → ends_in_backslash run ≡ true → 0 < length run
ends_filled [] is = absurd (cc)
ends_filled (x ∷ xs) is = omega arith

pub line_left : (parts : List (List ℕ)) (marks : List Mark) (n : ℕ) → AreMarks parts marks → last_end end_of 0 marks < length parts
    → line_if_filled n (words_left parts marks) ≡ record { number = n; words = words_left parts marks } ∷ []
line_left parts marks n are some = let size = words_length parts marks are in line_filled n (words_left parts marks) (omega (arith, size, some))

pub line_none : (parts : List (List ℕ)) (marks : List Mark) (n : ℕ) → AreMarks parts marks → length parts ≤ last_end end_of 0 marks → line_if_filled n (words_left parts marks) ≡ []
line_none parts marks n are none = let size = words_length parts marks are in line_empty n (words_left parts marks) (omega (arith, size, none))

pub words_none_left : (parts : List (List ℕ)) (marks : List Mark) → AreMarks parts marks → length parts ≤ last_end end_of 0 marks → words_left parts marks ≡ []
unfolding words_left
words_none_left parts marks are none = drop_of_length-le parts none

pub line_low : (parts : List (List ℕ)) (marks : List Mark) (i from : ℕ) → AreMarks parts marks → i < length marks → from ≡ mark_begins marks i → from ≤ (mark_at marks i).end
line_low parts marks i from are inside is = let at = line_is parts marks i are inside in omega (arith, at.low, is)

pub line_high : (parts : List (List ℕ)) (marks : List Mark) (i : ℕ) → AreMarks parts marks → i < length marks → (mark_at marks i).end ≤ length parts
line_high parts marks i are inside = (line_is parts marks i are inside).high

pub line_between : (parts : List (List ℕ)) (marks : List Mark) (i from : ℕ) → AreMarks parts marks → i < length marks → from ≡ mark_begins marks i
    → record { number = (mark_at marks i).number; words = slice_range parts from (mark_at marks i).end } ≡ line_at (done_of parts marks) i
line_between parts marks i from are inside is = grind (arith, line_is)

pub done_kept : (parts : List (List ℕ)) (marks : List Mark) (n : ℕ) → AreMarks parts marks → length parts ≤ last_end end_of 0 marks
    → done_of parts marks ≡ done_of parts marks ++ line_if_filled n (words_left parts marks)
done_kept parts marks n are none = sym (ap (λ more. done_of parts marks ++ more) (line_none parts marks n are none) ∙ append-nil (done_of parts marks))
