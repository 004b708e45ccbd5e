-- The running state is what looking back finds.
use Rattle.std.proofs.Common.{◌≡◌, ◌≢◌, ℕ, Bool, true, false, List, [], ◌∷◌, ◌++◌, length, Some, None, refl, ap, ap₂, ◌∙◌, arith, length-take}
use Rattle.blif_read.proofs.Common.{◌&&◌, if◌then◌else◌, option_map, Option, bytes_eq, Line, LineKind, Model, LinePlace, kind, arguments, model_name, place_behind, is_model_name, fault_inside, fault_at, statement, statement_of_kind, pins_of, OpenGate, OpenModel, Progress, follow, fault_next}
use Rattle.std.specs.Prelude.{◌||◌, option_and_then}
use Rattle.std.specs.List.{list_any}
use Rattle.blif_read.specs.declared.fault.BlifFault.TheVariants as fault
use Rattle.blif_read.specs.declared.kind.LineKind.TheVariants.{Names, End}
use Rattle.blif_read.specs.Kinds.{pin_count, is_on}
use Rattle.blif_read.specs.Places.{is_model, is_end, is_names, is_row, in_model, cover_line, this_unless, first_row}
use Rattle.blif_read.specs.Faults.{row_fault}
use Rattle.blif_read.specs.Statements.{lits_of}
use Rattle.blif_read.specs.Running.{add, add_row, place_in}
use Rattle.blif_read.proofs.FollowLemmas.{fault_of_other, goes_on}

abbrev pub place : Bool → Option ℕ → Option Bool → LinePlace
place in_model pins first = record { in_model = in_model; pins = pins; first = first }

-- the place behind a line of this kind
abbrev pub place_by : LineKind → Line → List Line → LinePlace
place_by k line earlier =
    place (if is_model k then true else (if is_end k then false else in_model earlier))
    (option_map (λ names. pin_count (arguments names)) (if is_row k then cover_line earlier else (if is_names k then Some line else None)))
    (option_map is_on (if is_row k then this_unless line (first_row earlier) else None))

length_pins : (names : List (List ℕ)) → length (pins_of names) ≡ pin_count names
length_pins names = simp length-take (omega arith)

-- The first row.

row_place : (gate : Option OpenGate) (line : Line) (earlier : List Line)
    → option_map (λ g. length g.pins) gate ≡ option_map (λ names. pin_count (arguments names)) (cover_line earlier)
    → option_and_then (λ g. g.first) gate ≡ option_map is_on (first_row earlier)
    → row_fault (option_map (λ g. length g.pins) gate) (option_and_then (λ g. g.first) gate) line ≡ None
    → (let now : Option OpenGate = option_map (add_row (record { lits = lits_of line.words }) (is_on line)) gate in
    place true (option_map (λ g. length g.pins) now) (option_and_then (λ g. g.first) now))
    ≡ place true (option_map (λ names. pin_count (arguments names)) (cover_line earlier)) (option_map is_on (this_unless line (first_row earlier)))
row_place gate line earlier pins first none = grind arith

-- A line of each kind.

inside_place : (m : OpenModel) (k : LineKind) (line : Line) (earlier : List Line) → k ≢ Model → k ≢ End → place_in (Some m) ≡ place_behind earlier
    → fault_inside k line (place_in (Some m)) ≡ None
    → place_in (Some (add m (statement_of_kind k line))) ≡ place_by k line earlier
inside_place m k line earlier other more same none = grind (arith, row_place, length_pins)

some_place : (in_progress : Option OpenModel) (k : LineKind) (line : Line) (earlier : List Line) → k ≢ Model → k ≢ End → place_in in_progress ≡ place_behind earlier
    → (if (place_in in_progress).in_model then fault_inside k line (place_in in_progress) else Some (fault.OutsideModel line.number)) ≡ None
    → place_in (option_map (λ m. add m (statement_of_kind k line)) in_progress) ≡ place_by k line earlier
some_place in_progress k line earlier other more same none = grind (arith, inside_place)

other_place : (p : Progress) (k : LineKind) (line : Line) (earlier : List Line) (taken : Bool) → k ≢ Model → k ≢ End → place_in p.in_progress ≡ place_behind earlier
    → fault_at k line (place_in p.in_progress) taken ≡ None
    → place_in (follow p (statement_of_kind k line)).in_progress ≡ place_by k line earlier
other_place p k line earlier taken other more same none = grind (arith, goes_on p k line other more, some_place p.in_progress k line earlier other more same, fault_of_other k line (place_in p.in_progress) taken other)

place_by_kind : (p : Progress) (k : LineKind) (line : Line) (earlier : List Line) (taken : Bool) → place_in p.in_progress ≡ place_behind earlier
    → fault_at k line (place_in p.in_progress) taken ≡ None
    → place_in (follow p (statement_of_kind k line)).in_progress ≡ place_by k line earlier
place_by_kind p k line earlier taken same none = grind (arith, other_place)

-- Names of models.

swapped : (a b c : Bool) → (a || (b || c)) ≡ (b || (a || c))
swapped a b c = grind arith

any_push : (test : List ℕ → Bool) (names : List (List ℕ)) (name : List ℕ) → list_any test (names ++ name ∷ []) ≡ (test name || list_any test names)
any_push test [] name = refl
any_push test (x ∷ xs) name = ap (λ t. test x || t) (any_push test xs name) ∙ swapped (test x) (test name) (list_any test xs)

-- The names are those of the earlier models.
abbrev pub AreNames : List (List ℕ) → List Line → Type 0
AreNames names earlier = (name : List ℕ) → list_any (bytes_eq name) names ≡ is_model_name name earlier

names_by_kind : (p : Progress) (k : LineKind) (line : Line) (earlier : List Line) → AreNames p.names earlier → (name : List ℕ)
    → list_any (bytes_eq name) (follow p (statement_of_kind k line)).names ≡ ((is_model k && bytes_eq name (model_name line)) || is_model_name name earlier)
names_by_kind p k line earlier are name = grind (arith, any_push)

-- The running state agrees with the lines so far.
pub record Agrees (p : Progress) (earlier : List Line) : Type 0 where
  pub place : place_in p.in_progress ≡ place_behind earlier
  pub names : AreNames p.names earlier

pub agrees_next : (p : Progress) (line : Line) (earlier : List Line) → Agrees p earlier → fault_next p line ≡ None → Agrees (follow p (statement line)) (line ∷ earlier)
agrees_next p line earlier agrees none = grind (arith, place_by_kind p (kind line) line earlier (list_any (bytes_eq (model_name line)) p.names) agrees.place none, names_by_kind p (kind line) line earlier agrees.names)

-- So the fault of the next line is the one that looking back finds.
pub fault_is : (p : Progress) (line : Line) (earlier : List Line) → Agrees p earlier → fault_next p line ≡ fault_at (kind line) line (place_behind earlier) (is_model_name (model_name line) earlier)
fault_is p line earlier agrees = ap₂ (fault_at (kind line) line) agrees.place (agrees.names (model_name line))
