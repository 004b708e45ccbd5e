-- Vector files: each line is one tick, and one word with a character for each input.
use Rattle.std.specs.Prelude.{◌≡◌, ◌≢◌, ℕ, Bool, List, [], ◌∷◌, ◌&&◌, ◌||◌, ◌==◌, length, map, All, codes, bytes_eq, false, if◌then◌else◌, Some, None}
use Rattle.std.specs.List.{list_all}
use Rattle.std.specs.declared.option.Option.{Option}
use Rattle.std.specs.declared.result.Result.{Result}
use Rattle.cyc_base.specs.declared.trit.Trit.{Trit}
use Rattle.cyc_base.specs.declared.trit.Trit.TheVariants.{Zero, One, X}
use Rattle.netlist.specs.Faults.{first_there}
use Rattle.blif_text.specs.Texts.{Line, lines}
use Rattle.sched_text.specs.declared.fault.SchedFault.{SchedFault}
use Rattle.sched_text.specs.declared.fault.SchedFault.TheVariants.{BadLine, WrongWidth}
use Rattle.sched_text.specs.Faults.{unless, of_lines}

-- The word of a line.

-- `0`, `1`, and `x` where unknown values are allowed
abbrev pub is_value : Bool → ℕ → Bool
is_value unknowns b = (b == 48) || (b == 49) || (unknowns && (b == 120))

-- where there are no inputs `-` stands for no values
abbrev pub is_dash : ℕ → List ℕ → Bool
is_dash width word = (width == 0) && bytes_eq word (codes "-")

abbrev pub word_fault : ℕ → Bool → ℕ → List ℕ → Option SchedFault
word_fault width unknowns n word =
    if is_dash width word then None
    else (if list_all (is_value unknowns) word
    then (if length word == width then None else Some (WrongWidth n))
    else Some (BadLine n))

abbrev pub value_of : ℕ → Trit
value_of b = if b == 48 then Zero else (if b == 49 then One else X)

abbrev pub values_of : ℕ → List ℕ → List Trit
values_of width word = if is_dash width word then [] else map value_of word

-- A line has one word.

abbrev pub words_fault : ℕ → Bool → ℕ → List (List ℕ) → Option SchedFault
words_fault width unknowns n (word ∷ []) = word_fault width unknowns n word
words_fault width unknowns n other = Some (BadLine n)

abbrev pub vector_fault : ℕ → Bool → Line → Option SchedFault
vector_fault width unknowns line = words_fault width unknowns line.number line.words

abbrev pub vector_of_words : ℕ → List (List ℕ) → List Trit
vector_of_words width (word ∷ []) = values_of width word
vector_of_words width other = []

abbrev pub vector_of : ℕ → Line → List Trit
vector_of width line = vector_of_words width line.words

-- The file: the first line with a fault decides; without one each line is a vector.

abbrev pub first_fault : ℕ → Bool → List Line → Option SchedFault
first_fault width unknowns found = first_there (map (vector_fault width unknowns) found)

abbrev pub vectors_of : ℕ → List Line → List (List Trit)
vectors_of width found = map (vector_of width) found

abbrev pub vectors : ℕ → Bool → List Line → Result (List (List Trit)) SchedFault
vectors width unknowns found = unless (first_fault width unknowns found) (vectors_of width found)

abbrev pub vectors_read : List ℕ → ℕ → Bool → Result (List (List Trit)) SchedFault
vectors_read text width unknowns = of_lines (vectors width unknowns) (lines text false)

-- each vector has as many values
abbrev pub HaveWidth : ℕ → List (List Trit) → Type 0
HaveWidth width found = All (λ vector. length vector ≡ width) found

-- each value is known
abbrev pub AreKnown : List (List Trit) → Type 0
AreKnown found = All (All (λ value. value ≢ X)) found
