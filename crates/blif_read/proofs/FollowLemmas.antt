-- A line without a fault fits the model in progress.
use Rattle.std.proofs.Common.{◌≡◌, ◌≢◌, ◌≤◌, ℕ, zero, suc, Bool, true, List, [], ◌∷◌, length, map, Some, None, refl, ap, ◌∙◌, arith, eqb-true, length-take}
use Rattle.blif_read.proofs.Common.{◌&&◌, if◌then◌else◌, option_map, Option, list_all, Line, BlifFault, LineKind, Model, LinePlace, fault_inside, fault_at, statement_of_kind, pins_of, OpenGate, OpenModel, MAX_PINS, Progress, follow}
use Rattle.std.specs.Prelude.{◌==◌, nat_lt}
use Rattle.blif_read.specs.declared.fault.BlifFault.TheVariants as fault
use Rattle.blif_read.specs.declared.kind.LineKind.TheVariants.{End}
use Rattle.blif_read.specs.Kinds.{is_on}
use Rattle.blif_read.specs.Faults.{names_fault, row_fault, row_fault_in, is_row_of, is_lit, is_plane, differs}
use Rattle.blif_read.specs.Statements.{lits_of, lit_of}
use Rattle.blif_read.specs.Running.{FitsGate, FitsModel, FitsProgress, place_in, go_on}

-- Pins.

few_pins : (names : List (List ℕ)) (t : Bool) (n : ℕ) → nat_lt MAX_PINS (length names) ≡ t → (if t then Some (fault.TooManyPins n) else None) ≡ None → length names ≤ MAX_PINS
few_pins names t n is none = grind arith

pub pins_fit : (n : ℕ) (names : List (List ℕ)) → names_fault n names ≡ None → length (pins_of names) ≤ MAX_PINS
pins_fit n [] none = absurd (cc none)
pins_fit n (name ∷ names) none = grind (arith, few_pins names (nat_lt MAX_PINS (length names)) n, length-take)

-- Literals.

length_lits : (word : List ℕ) → length (map lit_of word) ≡ length word
length_lits [] = refl
length_lits (b ∷ rest) = ap suc (length_lits rest)

first_of_and : (a b c : Bool) → (a && b && c) ≡ true → a ≡ true
first_of_and a b c is = grind arith

row_width : (pins : ℕ) (words : List (List ℕ)) → is_row_of pins words ≡ true → length (lits_of words) ≡ pins
row_width zero [] is = absurd (cc is)
row_width zero (plane ∷ []) is = refl
row_width zero (a ∷ b ∷ rest) is = absurd (cc is)
row_width (suc n) [] is = absurd (cc is)
row_width (suc n) (a ∷ []) is = absurd (cc is)
row_width (suc n) (lits ∷ plane ∷ []) is =
    length_lits lits ∙ eqb-true (length lits) (suc n) (first_of_and (length lits == suc n) (list_all is_lit lits) (is_plane plane) is)
row_width (suc n) (a ∷ b ∷ c ∷ rest) is = absurd (cc is)

row_is : (t : Bool) (pins n : ℕ) (words : List (List ℕ)) (next : Option BlifFault) → is_row_of pins words ≡ t → (if t then next else Some (fault.BadRow n)) ≡ None → is_row_of pins words ≡ true
row_is t pins n words next is none = grind arith

pub row_fits : (pins : ℕ) (first : Option Bool) (line : Line) → row_fault_in pins first line ≡ None → length (lits_of line.words) ≡ pins
row_fits pins first line none = grind (arith, row_width pins line.words, row_is (is_row_of pins line.words) pins line.number line.words (if differs first (is_on line) then Some (fault.MixedRows line.number) else None))

gate_fits : (gate : Option OpenGate) (first : Option Bool) (line : Line) → row_fault (option_map (λ g. length g.pins) gate) first line ≡ None
    → FitsGate gate (record { lits = lits_of line.words })
gate_fits gate first line none = grind (arith, row_fits)

model_fits : (open_model : OpenModel) (k : LineKind) (line : Line) → fault_inside k line (place_in (Some open_model)) ≡ None → FitsModel open_model (statement_of_kind k line)
model_fits m k line none = grind (arith, gate_fits, pins_fit)

pub fits : (in_progress : Option OpenModel) (k : LineKind) (line : Line) → fault_inside k line (place_in in_progress) ≡ None → FitsProgress in_progress (statement_of_kind k line)
fits in_progress k line none = grind (arith, model_fits)

-- Lines that aren't `.model` lines.

pub fault_of_other : (k : LineKind) (line : Line) (place : LinePlace) (taken : Bool) → k ≢ Model
    → fault_at k line place taken ≡ (if place.in_model then fault_inside k line place else Some (fault.OutsideModel line.number))
fault_of_other k line place taken other = grind arith

pub goes_on : (progress : Progress) (k : LineKind) (line : Line) → k ≢ Model → k ≢ End → follow progress (statement_of_kind k line) ≡ go_on progress (statement_of_kind k line)
goes_on progress k line other more = grind arith
