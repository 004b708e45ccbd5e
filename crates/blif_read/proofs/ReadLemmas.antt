-- The answer that there is once the lines that are left are read.
use Rattle.std.proofs.Common.{◌≡◌, ◌≤◌, ◌<◌, ℕ, zero, suc, ◌+◌, List, [], ◌∷◌, length, drop, map, Some, None, Ok, Err, refl, sym, ap, ◌∙◌, drop_of_length-le, add-one, arith}
use Rattle.blif_read.proofs.Common.{Option, Result, drop-cons, Line, BlifFault, BlifModel, first_fault, or_else, statement, if_any, unless_fault, reads_lines, Progress, all_ended, follow, fault_next}
use Rattle.blif_text.specs.Lines.{line_at}
use Rattle.blif_read.specs.Answers.{Answers}
use Rattle.blif_read.specs.Readers.{start}
use Rattle.blif_read.proofs.WholeLemmas.{whole, whole_step, whole_end}
use Rattle.blif_read.proofs.PlaceLemmas.{Agrees, agrees_next, fault_is}

abbrev pub answer : Progress → List Line → List Line → Result (List BlifModel) BlifFault
answer p earlier rest = unless_fault (first_fault earlier rest) (whole p (map statement rest))

-- the lines before a place, the nearest first
abbrev pub before : List Line → ℕ → List Line
before lines zero = []
before lines (suc i) = line_at lines i ∷ before lines i

pub record ReadsAt (lines : List Line) (p : Progress) (i : ℕ) : Type 0 where
  pub agrees : Agrees p (before lines i)
  pub answers : answer p (before lines i) (drop i lines) ≡ reads_lines (Ok lines)

pub at_start : (lines : List Line) (p : Progress) → p ≡ start → ReadsAt lines p 0
at_start lines p is = rw is (record { agrees = record { place = refl; names = λ name. refl }; answers = refl })

lines_here : (lines : List Line) (i : ℕ) → i < length lines → drop i lines ≡ line_at lines i ∷ drop (suc i) lines
lines_here lines i inside = drop-cons lines i (record { number = 0; words = [] }) inside

fault_here : (lines : List Line) (p : Progress) (i : ℕ) (found : Option BlifFault) → ReadsAt lines p i → i < length lines → fault_next p (line_at lines i) ≡ found
    → unless_fault (or_else found (first_fault (line_at lines i ∷ before lines i) (drop (suc i) lines))) (whole p (statement (line_at lines i) ∷ map statement (drop (suc i) lines))) ≡ reads_lines (Ok lines)
fault_here lines p i found at inside is = grind (arith, whole p (statement (line_at lines i) ∷ map statement (drop (suc i) lines)), fault_is p (line_at lines i) (before lines i) at.agrees, lines_here lines i inside)

pub at_next : (lines : List Line) (p next : Progress) (i : ℕ) → ReadsAt lines p i → i < length lines → fault_next p (line_at lines i) ≡ None → next ≡ follow p (statement (line_at lines i))
    → ReadsAt lines next (i + 1)
at_next lines p next i at inside none is =
    let line = line_at lines i in
    rw (is, add-one) (record {
      agrees = agrees_next p line (before lines i) at.agrees none;
      answers =
          ap (unless_fault (first_fault (line ∷ before lines i) (drop (suc i) lines))) (whole_step p (statement line) (map statement (drop (suc i) lines)))
          ∙ fault_here lines p i None at inside none;
    })

pub at_fault : (lines : List Line) (p : Progress) (i : ℕ) (found : BlifFault) → ReadsAt lines p i → i < length lines → fault_next p (line_at lines i) ≡ Some found → reads_lines (Ok lines) ≡ Err found
at_fault lines p i found at inside is = sym (fault_here lines p i (Some found) at inside is)

pub at_end : (lines : List Line) (p : Progress) (i : ℕ) → ReadsAt lines p i → length lines ≤ i → reads_lines (Ok lines) ≡ if_any (all_ended p)
at_end lines p i at over = grind (arith, drop_of_length-le lines over, whole_end p)

pub answers_same : {X : Type 0} (result wanted : Result X BlifFault) → result ≡ wanted → Answers result wanted
answers_same result wanted is = grind arith
