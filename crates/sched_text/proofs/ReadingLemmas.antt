-- A schedule is read piece by piece.
use Rattle.std.proofs.Common.{◌≡◌, ◌<◌, ◌≤◌, ℕ, ◌+◌, Bool, cond, List, [], ◌++◌, length, drop, Some, None, Ok, Err, sym, ap, ◌∙◌, arith, length-append, length-drop, drop_of_length-le}
use Rattle.sched_text.proofs.Common.{Option, Result, option_map, cases_lt, ne_eqb, Parts, Schedule, Line, end_number, line_at, SchedFault, BadLine, kind, is_tick, lacks_lines, is_cut_off, fault_at, fault_at_end, statement, schedule, Draft, follow, ended, bad_line, ReadsPiece, FitsNetlist}
use Rattle.std.specs.Prelude.{◌==◌, ◌&&◌}
use Rattle.std.proofs.Math.Seq.{drop-append_seam}
use Rattle.std.proofs.lemmas.List.{get_or-drop, get_or_append_left, drop-drop}
use Rattle.blif_text.specs.Texts.{unless_bad}
use Rattle.sched_text.specs.declared.place.SchedulePlace.{SchedulePlace}
use Rattle.sched_text.specs.Faults.{of_lines}
use Rattle.sched_text.specs.Schedules.{schedule_read}
use Rattle.sched_text.specs.Pieces.{lines_from, IsNext}
use Rattle.sched_text.specs.ReadingOn.{ReadsAt, IsPieceOf, FailsPiece}
use Rattle.sched_text.proofs.FitLemmas.{fits}
use Rattle.sched_text.proofs.PieceLemmas.{numbered_few, rising, size_of_physical}
use Rattle.sched_text.proofs.ScheduleLemmas.{at_next, at_fault, answers_end}

-- ---- the lines of a piece

-- whether the text ends in the line here
abbrev pub ends_here : ℕ → Line → Bool
ends_here end line = (line.number == end) && lacks_lines (Some (kind line))

module _ (net : Parts) (ticks end : ℕ) (piece : List Line) (place : SchedulePlace) (draft : Draft) where
  module _ (now : SchedulePlace) (so_far : Draft) (i : ℕ) (before : ReadsPiece net ticks end piece place draft now so_far i) (inside : i < length piece) where
    cut_here : (lines : List Line) (base : ℕ) → IsPieceOf end lines base piece
        → is_cut_off end (line_at lines (base + i)) (drop (base + i + 1) lines) ≡ ends_here end (line_at lines (base + i))
    cut_here lines base is = let within = is.within in is.ends (base + i) (omega arith)

    pub piece_next : (next : SchedulePlace) (after : Draft) → fault_at net ticks now.before now.begun (ends_here end (line_at piece i)) (line_at piece i) ≡ None
        → after ≡ follow so_far (statement net (line_at piece i))
        → next.before ≡ Some (kind (line_at piece i)) → next.begun ≡ cond (is_tick (kind (line_at piece i))) 1 0 + now.begun → next.begun ≤ now.begun + 1
        → ReadsPiece net ticks end piece place draft next after (i + 1)
    piece_next next after none said behind count one lines base is reads =
        let within = is.within in
        let same = is.same i inside in
        let e : base + (i + 1) ≡ base + i + 1 = omega arith in
        grind (arith, at_next net ticks end lines now next so_far after (base + i) (ends_here end (line_at lines (base + i))) (before lines base is reads), cut_here lines base is)

    pub piece_fault : (fault : SchedFault) → fault_at net ticks now.before now.begun (ends_here end (line_at piece i)) (line_at piece i) ≡ Some fault → FailsPiece net ticks end piece place draft fault
    piece_fault fault some lines base is reads = grind (arith, at_fault net ticks end lines now so_far (base + i) (ends_here end (line_at lines (base + i))) fault (before lines base is reads), cut_here lines base is)

-- ---- the pieces of a text

bad_answer : {X : Type 0} (read : List Line → Result X SchedFault) (bad : Option ℕ) (all : List Line) (fault : SchedFault)
    → option_map (λ n. BadLine n) bad ≡ Some fault → of_lines read (unless_bad bad all) ≡ Err fault
bad_answer read bad all fault is = grind arith

module _ (net : Parts) (ticks end : ℕ) (text : List ℕ) where
  -- so many lines were read, and these are left
  pub record AtPiece (done : ℕ) (left : List ℕ) (place : SchedulePlace) (draft : Draft) : Type 0 where
    pub base : ℕ
    pub inside : base ≤ length (lines_from 1 text)
    pub lines : drop base (lines_from 1 text) ≡ lines_from (done + 1) left
    pub bad : bad_line 1 text ≡ bad_line (done + 1) left
    pub small : done + length left ≤ length text
    pub reads : ReadsAt net ticks end (lines_from 1 text) place draft base

module _ (net : Parts) (ticks end : ℕ) (text : List ℕ) (end_is : end ≡ end_number text) where
  abbrev all_lines : List Line
  all_lines = lines_from 1 text

  -- of all lines the one with the end number is the last
  ends : (i : ℕ) → i < length all_lines → is_cut_off end (line_at all_lines i) (drop (i + 1) all_lines) ≡ ends_here end (line_at all_lines i)
  ends i inside = grind (arith, cases_lt, size_of_physical, rising, ne_eqb, drop_of_length-le)

  module _ (done : ℕ) (left : List ℕ) (place : SchedulePlace) (draft : Draft) (at : AtPiece net ticks end text done left place draft) where
    pub bad_here : (fault : SchedFault) → option_map (λ n. BadLine n) (bad_line (done + 1) left) ≡ Some fault → schedule_read text net ticks ≡ Err fault
    bad_here fault is = bad_answer (schedule net ticks (end_number text)) (bad_line 1 text) all_lines fault (ap (option_map (λ n. BadLine n)) at.bad ∙ is)

    good : bad_line (done + 1) left ≡ None → schedule_read text net ticks ≡ schedule net ticks end all_lines
    good none = grind arith

    module _ (after : ℕ) (later : List ℕ) (piece : List Line) (next : IsNext done after left later piece) where
      split : drop at.base all_lines ≡ piece ++ lines_from (after + 1) later
      split = at.lines ∙ next.lines

      within : at.base + length piece ≤ length all_lines
      within = grind (arith, length-drop at.base all_lines, split, length-append piece (lines_from (after + 1) later))

      is_piece : IsPieceOf end all_lines at.base piece
      is_piece = grind (arith, within, get_or-drop, split, get_or_append_left, ends)

      pub few : place.begun + length piece ≤ end
      few = grind (arith, size_of_physical, numbered_few, within)

      pub at_later : (now : SchedulePlace) (so_far : Draft) → ReadsPiece net ticks end piece place draft now so_far (length piece) → AtPiece net ticks end text after later now so_far
      at_later now so_far reads = record {
        base = at.base + length piece;
        inside = within;
        lines = sym (drop-drop (length piece) at.base all_lines)
            ∙ ap (drop (length piece)) split
            ∙ drop-append_seam piece (lines_from (after + 1) later);
        bad = at.bad ∙ next.bad;
        small = (let before = at.small in let less = next.small in omega (arith, before, less));
        reads = reads all_lines at.base is_piece at.reads;
      }

      pub fails_here : (fault : SchedFault) → FailsPiece net ticks end piece place draft fault → bad_line (after + 1) later ≡ None → schedule_read text net ticks ≡ Err fault
      fails_here fault fails none = good (next.bad ∙ none) ∙ fails all_lines at.base is_piece at.reads

      pub bad_later : (fault : SchedFault) → option_map (λ n. BadLine n) (bad_line (after + 1) later) ≡ Some fault → schedule_read text net ticks ≡ Err fault
      bad_later fault is = bad_here fault (ap (option_map (λ n. BadLine n)) next.bad ∙ is)

    module _ (nothing : left ≡ []) where
      over : length all_lines ≤ at.base
      over = grind (arith, length-drop at.base all_lines)

      good_last : schedule_read text net ticks ≡ schedule net ticks end all_lines
      good_last = good (ap (bad_line (done + 1)) nothing)

      pub read_last : fault_at_end ticks end place.before place.begun ≡ None → schedule_read text net ticks ≡ Ok (ended draft)
      read_last none = good_last ∙ answers_end net ticks end all_lines place draft at.base None at.reads over none

      pub fails_last : (fault : SchedFault) → fault_at_end ticks end place.before place.begun ≡ Some fault → schedule_read text net ticks ≡ Err fault
      fails_last fault is = good_last ∙ answers_end net ticks end all_lines place draft at.base (Some fault) at.reads over is

-- what is read fits the netlist
pub fits_read : (net : Parts) (ticks : ℕ) (text : List ℕ) (found : Schedule) → schedule_read text net ticks ≡ Ok found → FitsNetlist net ticks found
fits_read net ticks text found is = by (bad_line 1 text) is
  where
    by : (b : Option ℕ) → of_lines (schedule net ticks (end_number text)) (unless_bad b (lines_from 1 text)) ≡ Ok found → FitsNetlist net ticks found
    by None is = fits net ticks (end_number text) (lines_from 1 text) found is
    by (Some n) is = absurd (cc is)
