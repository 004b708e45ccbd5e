-- The models of a text whose lines are read part by part.
use Rattle.std.proofs.Common.{◌≡◌, ◌≤◌, ◌<◌, ℕ, suc, ◌+◌, ◌-◌, List, [], ◌∷◌, length, drop, map, true, Some, None, Ok, Err, refl, sym, ap, ◌∙◌, arith, drop_of_length-le, append-nil}
use Rattle.blif_read.proofs.Common.{Result, drop-cons, Line, BlifFault, BlifModel, statement, if_any, reads_lines, reads, Progress, all_ended, follow, fault_next}
use Rattle.std.specs.Prelude.{IfOk}
use Rattle.blif_text.specs.Texts.{lines}
use Rattle.blif_text.specs.Lines.{line_at}
use Rattle.blif_text.specs.Reading.{State, start as text_start, finish}
use Rattle.blif_text.specs.Parts.{state_over, with_part}
use Rattle.blif_text.proofs.PartLemmas.{behind_part, left, Stands, stands_start, left_start, left_over, stands_over, left_part, stands_part, left_end}
use Rattle.blif_read.specs.declared.fault.BlifFault.TheVariants.{BadByte}
use Rattle.blif_read.specs.Readers.{start}
use Rattle.blif_read.specs.Parts.{LeadTo}
use Rattle.blif_read.proofs.WholeLemmas.{whole, whole_step, whole_end}
use Rattle.blif_read.proofs.PlaceLemmas.{Agrees, agrees_next, fault_is}
use Rattle.blif_read.proofs.ReadLemmas.{answer}

-- The lines of one part.

-- whatever the lines from a place on lead to, all lead to
pub record LeadsOn (lines : List Line) (before now : Progress) (i : ℕ) : Type 0 where
  pub leads : (behind : Progress) → LeadTo now (drop i lines) behind → LeadTo before lines behind

pub leads_start : (lines : List Line) (before : Progress) → LeadsOn lines before before 0
leads_start lines before = record { leads = λ behind rest. rest }

pub leads_next : (lines : List Line) (before now next : Progress) (i : ℕ) → LeadsOn lines before now i → i < length lines
    → fault_next now (line_at lines i) ≡ None → next ≡ follow now (statement (line_at lines i)) → LeadsOn lines before next (i + 1)
leads_next lines before now next i on inside none is =
    let none_here : Line = record { number = 0; words = [] } in
    let e : suc i ≡ i + 1 = omega arith in
    let here : drop i lines ≡ line_at lines i ∷ drop (i + 1) lines = drop-cons lines i none_here inside ∙ ap (λ n. line_at lines i ∷ drop n lines) e in
    record { leads = λ behind rest. on.leads behind (rw here (none, rw is at rest)) }

pub leads_end : (lines : List Line) (before now : Progress) (i : ℕ) → LeadsOn lines before now i → length lines ≤ i → LeadTo before lines now
leads_end lines before now i on over = on.leads now (rw (drop_of_length-le lines over) refl)

-- What remains of a text.

abbrev pub answer_left : Progress → List Line → Result (List Line) ℕ → Result (List BlifModel) BlifFault
answer_left p earlier (Ok rest) = answer p earlier rest
answer_left p earlier (Err n) = Err (BadByte n)

-- behind some lines, what is left has the answer of the text
pub record Remains (text : List ℕ) (p : Progress) (left : Result (List Line) ℕ) : Type 0 where
  pub earlier : List Line
  pub agrees : Agrees p earlier
  pub answers : answer_left p earlier left ≡ reads text

nothing_earlier : (found : Result (List Line) ℕ) → answer_left start [] found ≡ reads_lines found
nothing_earlier found = grind arith

remains_line : (text : List ℕ) (p : Progress) (line : Line) (rest : Result (List Line) ℕ) → Remains text p (behind_part (line ∷ []) rest) → fault_next p line ≡ None
    → Remains text (follow p (statement line)) rest
remains_line text p line (Err n) at none = grind (arith, agrees_next p line at.earlier at.agrees none)
remains_line text p line (Ok rest) at none = grind (arith, agrees_next p line at.earlier at.agrees none, whole_step p (statement line) (map statement rest), whole p (statement line ∷ map statement rest), fault_is p line at.earlier at.agrees)

behind_none : (rest : Result (List Line) ℕ) → behind_part [] rest ≡ rest
behind_none rest = grind arith

behind_one : (line : Line) (more : List Line) (rest : Result (List Line) ℕ) → behind_part (line ∷ more) rest ≡ behind_part (line ∷ []) (behind_part more rest)
behind_one line more rest = grind arith

remains_lines : (text : List ℕ) (p q : Progress) (part : List Line) (rest : Result (List Line) ℕ) → Remains text p (behind_part part rest) → LeadTo p part q → Remains text q rest
remains_lines text p q [] rest found is = rw is (rw (behind_none rest) at found)
remains_lines text p q (line ∷ more) rest found leads = grind (arith, remains_lines text (follow p (statement line)) q more rest, remains_line text p line (behind_part more rest), behind_one line more rest)

remains_none : (text : List ℕ) (p : Progress) → Remains text p (Ok []) → reads text ≡ if_any (all_ended p)
remains_none text p at = sym at.answers ∙ ap if_any (whole_end p)

-- Where the reader of lines stands at a place.
pub record PartsAt (text : List ℕ) (p : Progress) (s : State) (i : ℕ) : Type 0 where
  pub stands : Stands s i
  pub number : s.number ≤ i + 1
  pub within : i ≤ length text
  pub remains : Remains text p (left true text s i)

pub at_start : (text : List ℕ) (p : Progress) (s : State) → p ≡ start → s ≡ text_start → PartsAt text p s 0
at_start text p s p_is s_is = grind (arith, stands_start s s_is, left_start text true s s_is, nothing_earlier (lines text true))

pub at_bytes : (text : List ℕ) (p : Progress) (s next : State) (i j : ℕ) → PartsAt text p s i → i ≤ j → j ≤ length text → state_over true text i (j - i) s ≡ Some next
    → PartsAt text p next j
at_bytes text p s next i j at low within read = grind (arith, stands_over text true s next i j at.stands low within read, left_over text true s next i j at.stands low within read)

pub at_part : (text : List ℕ) (p q : Progress) (s next : State) (part : List Line) (i : ℕ) → PartsAt text p s i → s ≡ with_part part next → LeadTo p part q → PartsAt text q next i
at_part text p q s next part i at is leads = grind (arith, stands_part part s next i is at.stands, remains_lines text p q part (left true text next i), left true text next i, left_part text true part s next i is)

pub at_end : (text : List ℕ) (p q : Progress) (s : State) (part : List Line) (i : ℕ) → PartsAt text p s i → length text ≤ i → part ≡ finish true s → LeadTo p part q
    → reads text ≡ if_any (all_ended q)
at_end text p q s part i at over is leads = grind (arith, left true text s i, left_end text true s i at.stands over, append-nil part, remains_none text q, remains_lines text p q part (Ok []))

pub ok_same : {X : Type 0} (result wanted : Result X BlifFault) → wanted ≡ result → IfOk result (λ x. wanted ≡ Ok x)
ok_same result wanted is = grind arith
