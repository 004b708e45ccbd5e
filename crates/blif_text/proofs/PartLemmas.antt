-- The lines of a text of which some are handed out while it is read.
use Rattle.std.proofs.Common.{◌≡◌, ℕ, zero, suc, ◌+◌, ◌-◌, ◌<◌, ◌≤◌, List, ◌++◌, length, drop, drop_of_length-le, get_or, true, false, refl, ap, subst, ◌∙◌, arith, append_assoc}
use Rattle.std.specs.Prelude.{Bool, ◌==◌, ◌&&◌, if◌then◌else◌, option_and_then, Some, Ok, Err}
use Rattle.std.specs.declared.option.Option.{Option}
use Rattle.std.specs.declared.result.Result.{Result}
use Rattle.blif_text.specs.Texts.{Line, lines, without_cr, begins_with, unless_bad}
use Rattle.blif_text.specs.Reading.{State, start, step, finish}
use Rattle.blif_text.specs.Parts.{state_behind, state_over, with_part}
use Rattle.blif_text.proofs.Pieces.{first_of, NoBlank}
use Rattle.blif_text.proofs.ReadingLemmas.{meaning, behind, under, line_left, after, reads_start, step_meaning, none_step, meaning_end}
use Rattle.blif_text.proofs.LoopLemmas.{rest_here, number_step}

-- lines behind those of a part, where there are lines
abbrev pub behind_part : List Line → Result (List Line) ℕ → Result (List Line) ℕ
behind_part part (Ok rest) = Ok (part ++ rest)
behind_part part (Err n) = Err n

-- the lines of a text that aren't handed out, where its reader stands at a place; or the first bad line
abbrev pub left : Bool → List ℕ → State → ℕ → Result (List Line) ℕ
left joins text s i = meaning joins s (without_cr (drop i text))

-- what a reader keeps
pub record Stands (s : State) (i : ℕ) : Type 0 where
  pub no_blank : NoBlank s.run
  pub number : s.number ≤ i + 1

pub stands_start : (s : State) → s ≡ start → Stands s 0
stands_start s is = grind arith

pub left_start : (text : List ℕ) (joins : Bool) (s : State) → s ≡ start → left joins text s 0 ≡ lines text joins
left_start text joins s is = ap (λ now. left joins text now 0) is ∙ (reads_start text joins).whole

-- A byte is read.

next_by : (text : List ℕ) (joins : Bool) (s next : State) (i : ℕ) (t : Bool) → Stands s i → i < length text → ((get_or text i 0 == 13) && begins_with 10 (drop (i + 1) text)) ≡ t
    → (if t then Some s else step joins s (get_or text i 0)) ≡ Some next → (left joins text next (i + 1) ≡ left joins text s i) × Stands next (i + 1)
next_by text joins s next i true at inside dropped is = grind (arith, rest_here text i (get_or text i 0) true inside)
next_by text joins s next i false at inside kept is =
    let b = get_or text i 0 in
    let rest = without_cr (drop (i + 1) text) in
    grind (arith, number_step joins s next b is, after joins s rest, step_meaning joins s b rest at.no_blank, rest_here text i b false inside, none_step joins s next b at.no_blank is)

left_next : (text : List ℕ) (joins : Bool) (s next : State) (i : ℕ) → Stands s i → i < length text → state_behind joins text i s ≡ Some next
    → left joins text next (i + 1) ≡ left joins text s i
left_next text joins s next i at inside is = grind (arith, next_by)

stands_next : (text : List ℕ) (joins : Bool) (s next : State) (i : ℕ) → Stands s i → i < length text → state_behind joins text i s ≡ Some next → Stands next (i + 1)
stands_next text joins s next i at inside is = grind (arith, next_by text joins s next i ((get_or text i 0 == 13) && begins_with 10 (drop (i + 1) text)))

-- Bytes are read.

-- the state between the first byte and the others
between : (f : State → Option State) (first : Option State) (last : State) → option_and_then f first ≡ Some last → (middle : State) × (first ≡ Some middle) × (f middle ≡ Some last)
between f first last is = grind arith

over : (text : List ℕ) (joins : Bool) (s next : State) (i n j : ℕ) → j ≡ i + n → j ≤ length text → Stands s i → state_over joins text i n s ≡ Some next
    → (left joins text next j ≡ left joins text s i) × Stands next j
over text joins s next i zero j is within at read =
    let same : s ≡ next = cc read in
    let here : i ≡ j = omega (arith, is) in
    let P : State → Type 0 = λ now. (left joins text now i ≡ left joins text s i) × Stands now i in
    let Q : ℕ → Type 0 = λ k. (left joins text next k ≡ left joins text s i) × Stands next k in
    subst Q here (subst P same (refl, at))
over text joins s next i (suc n) j is within at read =
    let split = between (state_over joins text (i + 1) n) (state_behind joins text i s) next read in
    let inside : i < length text = omega (arith, is, within) in
    grind (arith, over text joins split.0 next (i + 1) n j, stands_next text joins s split.0 i, left_next text joins s split.0 i)

pub left_over : (text : List ℕ) (joins : Bool) (s next : State) (i j : ℕ) → Stands s i → i ≤ j → j ≤ length text → state_over joins text i (j - i) s ≡ Some next
    → left joins text next j ≡ left joins text s i
left_over text joins s next i j at low within read = (over text joins s next i (j - i) j (omega (arith, low)) within at read).0

pub stands_over : (text : List ℕ) (joins : Bool) (s next : State) (i j : ℕ) → Stands s i → i ≤ j → j ≤ length text → state_over joins text i (j - i) s ≡ Some next → Stands next j
stands_over text joins s next i j at low within read = (over text joins s next i (j - i) j (omega (arith, low)) within at read).1

-- A part is handed out.

unless_front : (bad : Option ℕ) (part found more : List Line) → more ≡ part ++ found → unless_bad bad more ≡ behind_part part (unless_bad bad found)
unless_front bad part found more is = grind arith

behind_front : (joins : Bool) (part : List Line) (s : State) (line : List ℕ) (rest : List (List ℕ)) → behind joins (with_part part s) line rest ≡ part ++ behind joins s line rest
behind_front joins part s line rest = grind (arith, append_assoc, under)

part_left : (text : List ℕ) (joins : Bool) (part : List Line) (s : State) (i : ℕ) → left joins text (with_part part s) i ≡ behind_part part (left joins text s i)
part_left text joins part s i = grind (arith, line_left, first_of, unless_front, behind, behind_front)

pub left_part : (text : List ℕ) (joins : Bool) (part : List Line) (s next : State) (i : ℕ) → s ≡ with_part part next → left joins text s i ≡ behind_part part (left joins text next i)
left_part text joins part s next i is = ap (λ now. left joins text now i) is ∙ part_left text joins part next i

pub stands_part : (part : List Line) (s next : State) (i : ℕ) → s ≡ with_part part next → Stands s i → Stands next i
stands_part part s next i is at = grind arith

-- The text ends.

pub left_end : (text : List ℕ) (joins : Bool) (s : State) (i : ℕ) → Stands s i → length text ≤ i → left joins text s i ≡ Ok (finish joins s)
left_end text joins s i at over = grind (arith, drop_of_length-le, meaning_end)
