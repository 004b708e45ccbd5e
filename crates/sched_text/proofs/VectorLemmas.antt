-- The answer that there is once the lines that are left are read, and what vectors are like.
use Rattle.std.proofs.Common.{◌≡◌, ◌≢◌, ◌≤◌, ◌<◌, ℕ, suc, ◌+◌, Bool, true, false, List, [], ◌∷◌, ◌++◌, All, length, drop, map, Some, None, Ok, Err, sym, add-one, drop_of_length-le, eqb-true, arith}
use Rattle.sched_text.proofs.Common.{Option, Result, if◌then◌else◌, list_all, option_or, drop-cons, length-map, All-nil, All-cons, Line, line_at, SchedFault, unless, BadLine, WrongWidth, value_of}
use Rattle.std.specs.Prelude.{◌||◌, ◌==◌}
use Rattle.std.proofs.lemmas.Bool.{and_parts}
use Rattle.std.proofs.lemmas.List.{append-nil, append_assoc}
use Rattle.cyc_base.proofs.ListLemmas.{option_or-neither}
use Rattle.cyc_base.specs.declared.trit.Trit.{Trit}
use Rattle.cyc_base.specs.declared.trit.Trit.TheVariants.{Zero, One, X}
use Rattle.sched_text.specs.Vectors.{is_value, is_dash, words_fault, vector_fault, vector_of_words, vector_of, first_fault, vectors_of, vectors, HaveWidth, AreKnown}

-- Reading on.

abbrev pub answer : ℕ → Bool → List (List Trit) → List Line → Result (List (List Trit)) SchedFault
answer width unknowns done rest = unless (first_fault width unknowns rest) (done ++ vectors_of width rest)

pub record ReadsAt (width : ℕ) (unknowns : Bool) (lines : List Line) (done : List (List Trit)) (i : ℕ) : Type 0 where
  pub answers : answer width unknowns done (drop i lines) ≡ vectors width unknowns lines

pub lines_here : (lines : List Line) (i : ℕ) → i < length lines → drop i lines ≡ line_at lines i ∷ drop (suc i) lines
lines_here lines i inside = drop-cons lines i (record { number = 0; words = [] }) inside

fault_here : (width : ℕ) (unknowns : Bool) (lines : List Line) (done : List (List Trit)) (i : ℕ) (found : Option SchedFault)
    → ReadsAt width unknowns lines done i → i < length lines → vector_fault width unknowns (line_at lines i) ≡ found
    → unless (option_or found (first_fault width unknowns (drop (suc i) lines))) (done ++ vector_of width (line_at lines i) ∷ vectors_of width (drop (suc i) lines)) ≡ vectors width unknowns lines
fault_here width unknowns lines done i found at inside is = grind (arith, lines_here)

pub at_next : (width : ℕ) (unknowns : Bool) (lines : List Line) (done now : List (List Trit)) (i : ℕ)
    → ReadsAt width unknowns lines done i → i < length lines → vector_fault width unknowns (line_at lines i) ≡ None
    → now ≡ done ++ vector_of width (line_at lines i) ∷ []
    → ReadsAt width unknowns lines now (i + 1)
at_next width unknowns lines done now i at inside none is =
    let rest = drop (suc i) lines in
    grind (arith, add-one i, append_assoc done (vector_of width (line_at lines i) ∷ []) (vectors_of width rest), fault_here width unknowns lines done i None)

pub at_fault : (width : ℕ) (unknowns : Bool) (lines : List Line) (done : List (List Trit)) (i : ℕ) (found : SchedFault)
    → ReadsAt width unknowns lines done i → i < length lines → vector_fault width unknowns (line_at lines i) ≡ Some found
    → vectors width unknowns lines ≡ Err found
at_fault width unknowns lines done i found at inside is = sym (fault_here width unknowns lines done i (Some found) at inside is)

pub at_end : (width : ℕ) (unknowns : Bool) (lines : List Line) (done : List (List Trit)) (i : ℕ)
    → ReadsAt width unknowns lines done i → length lines ≤ i → vectors width unknowns lines ≡ Ok done
at_end width unknowns lines done i at over = grind (arith, drop_of_length-le, append-nil)

-- What vectors without a fault are like.

pub no_fault : {X : Type 0} (fault : Option SchedFault) (meant found : X) → unless fault meant ≡ Ok found → fault ≡ None
no_fault fault meant found is = grind arith

pub as_meant : {X : Type 0} (fault : Option SchedFault) (meant found : X) → unless fault meant ≡ Ok found → meant ≡ found
as_meant fault meant found is = grind arith

-- each line without a fault gives a vector that is as wanted
each_is : (width : ℕ) (unknowns : Bool) (P : List Trit → Type 0)
    → ((line : Line) → vector_fault width unknowns line ≡ None → P (vector_of width line))
    → (lines : List Line) → first_fault width unknowns lines ≡ None → All P (vectors_of width lines)
each_is width unknowns P one [] none = All-nil P
each_is width unknowns P one (line ∷ rest) none = grind (arith, option_or-neither, All-cons, each_is width unknowns P one rest)

each_read : (width : ℕ) (unknowns : Bool) (P : List Trit → Type 0)
    → ((line : Line) → vector_fault width unknowns line ≡ None → P (vector_of width line))
    → (lines : List Line) (found : List (List Trit)) → vectors width unknowns lines ≡ Ok found → All P found
each_read width unknowns P one lines found is =
    grind (arith, as_meant (first_fault width unknowns lines) (vectors_of width lines) found is, each_is width unknowns P one lines (no_fault (first_fault width unknowns lines) (vectors_of width lines) found is), no_fault (first_fault width unknowns lines) (vectors_of width lines) found is)

width_of_word : (width : ℕ) (n : ℕ) (word : List ℕ) (dash good fits : Bool)
    → is_dash width word ≡ dash → (length word == width) ≡ fits
    → (if dash then None else (if good then (if fits then None else Some (WrongWidth n)) else Some (BadLine n))) ≡ None
    → length (if dash then [] else map value_of word) ≡ width
width_of_word width n word dash good fits d e none = grind (arith, eqb-true, and_parts, length-map)

width_of_words : (width : ℕ) (unknowns : Bool) (n : ℕ) (words : List (List ℕ)) → words_fault width unknowns n words ≡ None → length (vector_of_words width words) ≡ width
width_of_words width unknowns n words none = grind (arith, width_of_word)

pub have_width : (width : ℕ) (unknowns : Bool) (lines : List Line) (found : List (List Trit)) → vectors width unknowns lines ≡ Ok found → HaveWidth width found
have_width width unknowns lines found is =
    each_read width unknowns (λ vector. length vector ≡ width) (λ line none. width_of_words width unknowns line.number line.words none) lines found is

known_value : (zero one : Bool) → (zero || one || false) ≡ true → (if zero then Zero else (if one then One else X)) ≢ X
known_value zero one is same = grind arith

known_values : (word : List ℕ) → list_all (is_value false) word ≡ true → All (λ value. value ≢ X) (map value_of word)
known_values [] is = All-nil (λ value. value ≢ X)
known_values (b ∷ rest) is = grind (arith, and_parts, All-cons, known_value, known_values rest)

known_word : (width n : ℕ) (word : List ℕ) (dash good fits : Bool)
    → list_all (is_value false) word ≡ good
    → (if dash then None else (if good then (if fits then None else Some (WrongWidth n)) else Some (BadLine n))) ≡ None
    → All (λ value. value ≢ X) (if dash then [] else map value_of word)
known_word width n word dash good fits g none = grind (arith, All-nil, known_values)

known_words : (width n : ℕ) (words : List (List ℕ)) → words_fault width false n words ≡ None → All (λ value. value ≢ X) (vector_of_words width words)
known_words width n words none = grind (arith, known_word)

pub are_known : (width : ℕ) (unknowns : Bool) (lines : List Line) (found : List (List Trit)) → unknowns ≡ false → vectors width unknowns lines ≡ Ok found → AreKnown found
are_known width unknowns lines found boolean is =
    each_read width false (All (λ value. value ≢ X)) (λ line none. known_words width line.number line.words none) lines found (rw boolean at is)
