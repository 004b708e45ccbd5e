-- What the lines of a text say is sound.
use Rattle.std.proofs.Common.{◌≡◌, ◌≢◌, ℕ, ◌+◌, List, [], ◌∷◌, drop, map, true, refl, arith, All}
use Rattle.blif_read.proofs.Common.{if◌then◌else◌, Option, bytes_eq, list_all, All-head, All-tail, Line, BlifFault, LineKind, LinePlace, Statement, Inputs, Outputs, Clocks, Latch, Part, End, kind, arguments, model_name, place_behind, is_model_name, fault_at, fault_inside, first_fault, or_else, is_pair, is_equals, statement, statement_of_kind, pins_of, pair_of}
use Rattle.std.specs.Prelude.{Bool, Some, None, codes}
use Rattle.std.specs.List.{position_or_len}
use Rattle.std.proofs.lemmas.List.Elements.{All-nil, All-cons, All-map, All-take, All-drop}
use Rattle.std.proofs.lemmas.Bool.{and_parts}
use Rattle.cyc_base.specs.Names.{IsBlifName, IsBlifByte}
use Rattle.netlist.specs.declared.parts.Edge.{Edge}
use Rattle.blif_text.specs.Texts.{is_filled}
use Rattle.blif_text.proofs.LineFacts.{HasNames}
use Rattle.blif_read.specs.declared.fault.BlifFault.TheVariants as fault
use Rattle.blif_read.specs.declared.kind.LineKind.TheVariants as of
use Rattle.blif_read.specs.declared.statement.Statement.TheVariants.{Model, Names, Row, Nothing}
use Rattle.blif_read.specs.Kinds.{pin_count, word_at}
use Rattle.blif_read.specs.Faults.{fault as fault_of, model_fault, names_fault, latch_fault, subckt_fault, formal_of, actual_of}
use Rattle.blif_read.specs.Statements.{output_of, latch_of, control_of, edge_of, part_of}
use Rattle.blif_read.specs.Flattening.{IsSoundControl, IsSoundLatch, IsSoundPart}
use Rattle.blif_read.proofs.FollowLemmas.{fault_of_other}

abbrev pub IsSoundStatement : Statement → Type 0
IsSoundStatement (Model name) = IsBlifName name
IsSoundStatement (Inputs names) = All IsBlifName names
IsSoundStatement (Outputs names) = All IsBlifName names
IsSoundStatement (Clocks names) = All IsBlifName names
IsSoundStatement (Names pins output) = All IsBlifName pins × IsBlifName output
IsSoundStatement (Row row plane) = Unit {0}
IsSoundStatement (Latch latch) = IsSoundLatch latch
IsSoundStatement (Part part) = IsSoundPart part
IsSoundStatement End = Unit {0}
IsSoundStatement Nothing = Unit {0}

names_behind : (line : Line) → HasNames line → All IsBlifName (arguments line)
names_behind line each = All-drop IsBlifName 1 line.words each

-- `.model` lines.

sound_model_name : (n : ℕ) (words : List (List ℕ)) (taken : Bool) → All IsBlifName words → model_fault n (drop 1 words) taken ≡ None → IsBlifName (word_at words 1)
sound_model_name n [] taken each none = absurd (cc none)
sound_model_name n (a ∷ []) taken each none = absurd (cc none)
sound_model_name n (a ∷ b ∷ []) taken each none = each 1 [] (omega arith)
sound_model_name n (a ∷ b ∷ c ∷ rest) taken each none = absurd (cc none)

-- `.names` lines.

sound_gate : (n : ℕ) (names : List (List ℕ)) → All IsBlifName names → names_fault n names ≡ None → All IsBlifName (pins_of names) × IsBlifName (output_of names)
sound_gate n [] each none = absurd (cc none)
sound_gate n (name ∷ names) each none = grind (arith, All-take IsBlifName (pin_count (name ∷ names)) (name ∷ names) each)

-- `.latch` lines.

sound_choice : (t : Bool) (edge : Edge) (name : List ℕ) → bytes_eq name (codes "NIL") ≡ t → IsBlifName name
    → IsSoundControl (if t then None else Some (record { edge = edge; name = name }))
sound_choice t edge name is blif = grind arith

sound_control : (edge : Edge) (name : List ℕ) → IsBlifName name → IsSoundControl (control_of edge name)
sound_control edge name blif = sound_choice (bytes_eq name (codes "NIL")) edge name refl blif

sound_latch : (n : ℕ) (words : List (List ℕ)) → All IsBlifName words → latch_fault n words ≡ None → IsSoundLatch (latch_of words)
sound_latch n [] each none = absurd (cc none)
sound_latch n (a ∷ []) each none = absurd (cc none)
sound_latch n (a ∷ b ∷ []) each none = record { from = each 0 [] (omega arith); output = each 1 [] (omega arith); control = tt }
sound_latch n (a ∷ b ∷ c ∷ []) each none = record { from = each 0 [] (omega arith); output = each 1 [] (omega arith); control = tt }
sound_latch n (a ∷ b ∷ c ∷ d ∷ []) each none =
    record { from = each 0 [] (omega arith); output = each 1 [] (omega arith); control = sound_control (edge_of c) d (each 3 [] (omega arith)) }
sound_latch n (a ∷ b ∷ c ∷ d ∷ e ∷ []) each none =
    record { from = each 0 [] (omega arith); output = each 1 [] (omega arith); control = sound_control (edge_of c) d (each 3 [] (omega arith)) }
sound_latch n (a ∷ b ∷ c ∷ d ∷ e ∷ f ∷ rest) each none = absurd (cc none)

-- `.subckt` lines.

filled_name : (name : List ℕ) → is_filled name ≡ true → All IsBlifByte name → IsBlifName name
filled_name [] filled each = absurd (cc filled)
filled_name (b ∷ rest) filled each = ((λ e. cc e), each)

sound_pair : (word : List ℕ) → IsBlifName word → is_pair word ≡ true → IsBlifName (formal_of word) × IsBlifName (actual_of word)
sound_pair word blif pair =
    let at = position_or_len is_equals word in
    grind (arith, and_parts (is_filled (formal_of word)) (is_filled (actual_of word)) pair, filled_name (formal_of word), All-take IsBlifByte, filled_name (actual_of word), All-drop IsBlifByte (at + 1) word blif.1)

abbrev IsSoundWord : List ℕ → Type 0
IsSoundWord word = IsBlifName (formal_of word) × IsBlifName (actual_of word)

sound_pairs : (words : List (List ℕ)) → All IsBlifName words → list_all is_pair words ≡ true → All IsSoundWord words
sound_pairs [] each pairs = All-nil IsSoundWord
sound_pairs (word ∷ words) each pairs =
    let both = and_parts (is_pair word) (list_all is_pair words) pairs in
    All-cons IsSoundWord word words (sound_pair word (All-head IsBlifName word words each) both.0) (sound_pairs words (All-tail IsBlifName word words each) both.1)

are_pairs : (t : Bool) (n : ℕ) (words : List (List ℕ)) → list_all is_pair words ≡ t → (if t then None else Some (fault.BadSubckt n)) ≡ None → list_all is_pair words ≡ true
are_pairs t n words is none = grind arith

sound_part : (n : ℕ) (words : List (List ℕ)) → All IsBlifName words → subckt_fault n words ≡ None → IsSoundPart (part_of words)
sound_part n [] each none = absurd (cc none)
sound_part n (model ∷ pairs) each none = record {
  model = each 0 [] (omega arith);
  pairs =
      All-map (λ pair. IsBlifName pair.0 × IsBlifName pair.1) pair_of pairs
      (sound_pairs pairs (All-tail IsBlifName model pairs each) (are_pairs (list_all is_pair pairs) n pairs refl none));
}

-- Each statement.

sound_inside : (k : LineKind) (line : Line) (place : LinePlace) → k ≢ of.Model → HasNames line → fault_inside k line place ≡ None → IsSoundStatement (statement_of_kind k line)
sound_inside unnamed line place other each none = grind (arith, names_behind, sound_gate, sound_latch, sound_part)

no_fault_inside : (t : Bool) (n : ℕ) (inside : Option BlifFault) → (if t then inside else Some (fault.OutsideModel n)) ≡ None → inside ≡ None
no_fault_inside t n inside none = grind arith

sound_other : (k : LineKind) (line : Line) (place : LinePlace) (taken : Bool) → k ≢ of.Model → HasNames line → fault_at k line place taken ≡ None → IsSoundStatement (statement_of_kind k line)
sound_other k line place taken other each none = grind (arith, sound_inside k line place other each, no_fault_inside place.in_model line.number (fault_inside k line place), fault_of_other k line place taken other)

sound_statement : (k : LineKind) (line : Line) (place : LinePlace) (taken : Bool) → HasNames line → fault_at k line place taken ≡ None → IsSoundStatement (statement_of_kind k line)
sound_statement other line place taken each none = grind (arith, sound_model_name, sound_other)

pub or_none : (here next : Option BlifFault) → or_else here next ≡ None → (here ≡ None) × (next ≡ None)
or_none here next none = grind arith

pub sound_statements : (earlier rest : List Line) → All HasNames rest → first_fault earlier rest ≡ None → All IsSoundStatement (map statement rest)
sound_statements earlier [] each none = All-nil IsSoundStatement
sound_statements earlier (line ∷ rest) each none =
    let both = or_none (fault_of line earlier) (first_fault (line ∷ earlier) rest) none in
    All-cons IsSoundStatement (statement line) (map statement rest)
    (sound_statement (kind line) line (place_behind earlier) (is_model_name (model_name line) earlier) (All-head HasNames line rest each) both.0)
    (sound_statements (line ∷ earlier) rest (All-tail HasNames line rest each) both.1)
