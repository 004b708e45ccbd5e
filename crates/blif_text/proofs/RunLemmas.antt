-- Bytes of a word that are read at once.
use Rattle.std.proofs.Common.{◌≡◌, ℕ, zero, suc, ◌+◌, ◌-◌, ◌<◌, ◌≤◌, List, [], ◌∷◌, ◌++◌, take, drop, length, get_or, true, false, refl, sym, ap, ◌∙◌, arith, append-nil, append_assoc, get_or-drop, length-drop, take-suc}
use Rattle.std.specs.Prelude.{Bool, ◌==◌, slice_range, Some}
use Rattle.std.specs.List.{list_all}
use Rattle.std.proofs.lemmas.List.Folds.{list_all-append}
use Rattle.std.proofs.lemmas.Bool.{and_parts}
use Rattle.blif_text.specs.Texts.{is_lf, is_blank, is_printed}
use Rattle.blif_text.specs.Reading.{State, step, put, put_all}
use Rattle.blif_text.specs.Parts.{state_behind, state_over, is_word_byte}
use Rattle.blif_text.proofs.ReadingLemmas.{choice}
use Rattle.blif_text.proofs.LoopLemmas.{drop_here}

-- One byte of a word.

pub record WordByte (b : ℕ) : Type 0 where
  pub cr : (b == 13) ≡ false
  pub lf : is_lf b ≡ false
  pub hash : (b == 35) ≡ false
  pub blank : is_blank b ≡ false
  pub printed : is_printed b ≡ true

word_byte : (b : ℕ) → is_word_byte b ≡ true → WordByte b
word_byte b is = grind arith

put_choice : (joins : Bool) (s : State) (b : ℕ) (lf comment hash blank printed : Bool) → lf ≡ false → comment ≡ false → hash ≡ false → blank ≡ false → printed ≡ true
    → choice joins s b lf comment hash blank printed ≡ Some (put b s)
put_choice joins s b lf comment hash blank printed e1 e2 e3 e4 e5 = rw (e1, e2, e3, e4, e5) refl

put_step : (joins : Bool) (s : State) (b : ℕ) → s.comment ≡ false → is_word_byte b ≡ true → step joins s b ≡ Some (put b s)
put_step joins s b outside is = grind (arith, word_byte b is, put_choice joins s b (is_lf b) s.comment (b == 35) (is_blank b) (is_printed b))

put_behind : (joins : Bool) (text : List ℕ) (i : ℕ) (s : State) → s.comment ≡ false → is_word_byte (get_or text i 0) ≡ true
    → state_behind joins text i s ≡ Some (put (get_or text i 0) s)
put_behind joins text i s outside is = grind (arith, word_byte, put_step)

-- Some bytes of a word.

put_over : (joins : Bool) (text : List ℕ) (i n : ℕ) (s : State) → s.comment ≡ false → i + n ≤ length text → list_all is_word_byte (take n (drop i text)) ≡ true
    → state_over joins text i n s ≡ Some (put_all (take n (drop i text)) s)
put_over joins text i zero s outside within each = ap (λ run. Some (record s { run = run })) (sym (append-nil s.run))
put_over joins text i (suc n) s outside within each =
    let b = get_or text i 0 in
    grind (arith, drop_here, and_parts, put_behind, put_over joins text (i + 1) n (put b s) outside, append_assoc)

pub run_over : (joins : Bool) (text : List ℕ) (i end : ℕ) (s : State) → s.comment ≡ false → i ≤ end → end ≤ length text → list_all is_word_byte (slice_range text i end) ≡ true
    → state_over joins text i (end - i) s ≡ Some (put_all (slice_range text i end) s)
run_over joins text i end s outside low high each = put_over joins text i (end - i) s outside (omega arith) each

pub one_over : (joins : Bool) (text : List ℕ) (i : ℕ) (s next : State) → state_behind joins text i s ≡ Some next → state_over joins text i (i + 1 - i) s ≡ Some next
one_over joins text i s next is = grind arith

-- Where they end.

pub word_none : (text : List ℕ) (i : ℕ) → list_all is_word_byte (slice_range text i i) ≡ true
word_none text i = let e : i - i ≡ 0 = omega arith in rw e refl

pub word_more : (text : List ℕ) (i end : ℕ) → i ≤ end → end < length text → list_all is_word_byte (slice_range text i end) ≡ true → is_word_byte (get_or text end 0) ≡ true
    → list_all is_word_byte (slice_range text i (end + 1)) ≡ true
word_more text i end low high each is =
    let b = get_or text end 0 in
    let e : end + 1 - i ≡ suc (end - i) = omega arith in
    let at : i + (end - i) ≡ end = omega arith in
    let inside : end - i < length (drop i text) = simp length-drop (omega arith) in
    let more : slice_range text i (end + 1) ≡ slice_range text i end ++ b ∷ [] = rw (e, take-suc (drop i text) (end - i) 0 inside, get_or-drop, at) refl in
    ap (list_all is_word_byte) more ∙ list_all-append is_word_byte (slice_range text i end) (b ∷ []) ∙ rw (each, is) refl
