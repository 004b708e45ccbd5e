-- The models of a text can be flattened.
use Rattle.std.proofs.Common.{◌≡◌, ◌≢◌, ◌≤◌, ℕ, ◌+◌, List, [], ◌∷◌, length, drop, map, true, false, refl, ap, ◌∙◌, arith, length-append, All}
use Rattle.blif_read.proofs.Common.{◌&&◌, Option, Result, bytes_eq, All-head, All-tail, Line, BlifFault, LineKind, BlifModel, Statement, Latch, Part, End, kind, model_name, place_behind, is_model_name, fault_at, first_fault, statement, statement_of_kind, members, reads, reads_lines, unless_fault}
use Rattle.std.specs.Prelude.{Bool, ◌||◌, Some, None, Ok, Err, flat_map, AllPairs}
use Rattle.std.proofs.lemmas.List.Elements.{All-nil, All-cons, All-append, All-weaker}
use Rattle.std.proofs.lemmas.List.Kept.{AllPairs-cons}
use Rattle.std.proofs.lemmas.Bool.{or_parts}
use Rattle.cyc_base.specs.Names.{IsBlifName}
use Rattle.blif_text.specs.Texts.{lines}
use Rattle.blif_text.proofs.LineFacts.{word_count, total, words_are_names, words_are_few}
use Rattle.blif_read.specs.declared.kind.LineKind.TheVariants as of
use Rattle.blif_read.specs.declared.models.Item.TheVariants as item
use Rattle.blif_read.specs.declared.statement.Statement.TheVariants.{Model, Names}
use Rattle.blif_read.specs.Places.{is_model}
use Rattle.blif_read.specs.Faults.{fault as fault_of, model_fault}
use Rattle.blif_read.specs.Models.{inputs_in, outputs_in, clocks_in, gate_of, body_of, model_of, models}
use Rattle.blif_read.specs.Flattening.{IsSoundItem, IsSoundModel, CanBeFlattened}
use Rattle.blif_read.proofs.SoundLemmas.{IsSoundStatement, sound_statements, or_none}
use Rattle.cyc_base.proofs.NameLemmas.{bytes_eq-same}

-- What stands in a model.

abbrev AreSound : List Statement → Type 0
AreSound said = All IsSoundStatement said

sound_members : (said : List Statement) → AreSound said → AreSound (members said)
sound_members [] each = each
sound_members (Model name ∷ rest) each = All-nil IsSoundStatement
sound_members (End ∷ rest) each = All-nil IsSoundStatement
sound_members (other ∷ rest) each =
    All-cons IsSoundStatement other (members rest) (All-head IsSoundStatement other rest each) (sound_members rest (All-tail IsSoundStatement other rest each))

each_of_flat : (names_in : Statement → List (List ℕ)) → ((said : Statement) → IsSoundStatement said → All IsBlifName (names_in said))
    → (said : List Statement) → AreSound said → All IsBlifName (flat_map names_in said)
each_of_flat names_in each_in [] each = All-nil IsBlifName
each_of_flat names_in each_in (s ∷ rest) each =
    All-append IsBlifName (names_in s) (flat_map names_in rest) (each_in s (All-head IsSoundStatement s rest each)) (each_of_flat names_in each_in rest (All-tail IsSoundStatement s rest each))

sound_inputs : (said : Statement) → IsSoundStatement said → All IsBlifName (inputs_in said)
sound_inputs other sound = grind arith

sound_outputs : (said : Statement) → IsSoundStatement said → All IsBlifName (outputs_in said)
sound_outputs other sound = grind arith

sound_clocks : (said : Statement) → IsSoundStatement said → All IsBlifName (clocks_in said)
sound_clocks other sound = grind arith

sound_body : (said : List Statement) → AreSound said → All IsSoundItem (body_of said)
sound_body [] each = All-nil IsSoundItem
sound_body (Names pins output ∷ rest) each =
    grind (arith, All-head IsSoundStatement (Names pins output) rest each, All-cons IsSoundItem (item.Gate (gate_of pins output rest)) (body_of rest), sound_body rest (All-tail IsSoundStatement (Names pins output) rest each), All-tail IsSoundStatement (Names pins output) rest each)
sound_body (Latch latch ∷ rest) each =
    All-cons IsSoundItem (item.Latch latch) (body_of rest) (All-head IsSoundStatement (Latch latch) rest each) (sound_body rest (All-tail IsSoundStatement (Latch latch) rest each))
sound_body (Part part ∷ rest) each =
    All-cons IsSoundItem (item.Part part) (body_of rest) (All-head IsSoundStatement (Part part) rest each) (sound_body rest (All-tail IsSoundStatement (Part part) rest each))
sound_body (other ∷ rest) each = sound_body rest (All-tail IsSoundStatement other rest each)

-- How many inputs a model has.

abbrev input_count : Statement → ℕ
input_count said = length (inputs_in said)

flat_count : (said : List Statement) → length (flat_map inputs_in said) ≡ total input_count said
flat_count [] = refl
flat_count (s ∷ rest) = length-append (inputs_in s) (flat_map inputs_in rest) ∙ ap (λ n. length (inputs_in s) + n) (flat_count rest)

members_count : (said : List Statement) → total input_count (members said) ≤ total input_count said
members_count [] = omega arith
members_count (Model name ∷ rest) = omega arith
members_count (End ∷ rest) = omega arith
members_count (other ∷ rest) = let more = members_count rest in omega arith

kind_count : (k : LineKind) (line : Line) → input_count (statement_of_kind k line) ≤ word_count line
kind_count other line = grind arith

lines_count : (found : List Line) → total input_count (map statement found) ≤ total word_count found
lines_count [] = omega arith
lines_count (line ∷ rest) = let here = kind_count (kind line) line in let more = lines_count rest in omega arith

-- Each model.

sound_model : (name : List ℕ) (rest : List Statement) → IsBlifName name → AreSound rest → total input_count rest ≤ 4000000000 → IsSoundModel (model_of name (members rest))
sound_model name rest blif each few =
    let inside = sound_members rest each in
    let count = flat_count (members rest) in
    let fewer = members_count rest in
    record {
      name = blif;
      inputs = each_of_flat inputs_in sound_inputs (members rest) inside;
      outputs = each_of_flat outputs_in sound_outputs (members rest) inside;
      clocks = each_of_flat clocks_in sound_clocks (members rest) inside;
      body = sound_body (members rest) inside;
      few_inputs = omega arith;
    }

few_behind : {most : ℕ} (s : Statement) (rest : List Statement) → total input_count (s ∷ rest) ≤ most → total input_count rest ≤ most
few_behind s rest few = omega arith

sound_models : (said : List Statement) → AreSound said → total input_count said ≤ 4000000000 → All IsSoundModel (models said)
sound_models [] each few = All-nil IsSoundModel
sound_models (Model name ∷ rest) each few =
    let behind = All-tail IsSoundStatement (Model name) rest each in
    let fewer = few_behind (Model name) rest few in
    All-cons IsSoundModel (model_of name (members rest)) (models rest) (sound_model name rest (All-head IsSoundStatement (Model name) rest each) behind fewer) (sound_models rest behind fewer)
sound_models (other ∷ rest) each few = sound_models rest (All-tail IsSoundStatement other rest each) (few_behind other rest few)

-- The names of models differ.

abbrev IsNewTo : List Line → BlifModel → Type 0
IsNewTo earlier model = is_model_name model.name earlier ≡ false

abbrev NamesDiffer : BlifModel → BlifModel → Type 0
NamesDiffer a b = a.name ≢ b.name

new_name : (n : ℕ) (words : List (List ℕ)) (taken : Bool) → model_fault n (drop 1 words) taken ≡ None → taken ≡ false
new_name n [] taken none = absurd (cc none)
new_name n (a ∷ []) taken none = absurd (cc none)
new_name n (a ∷ b ∷ []) true none = absurd (cc none)
new_name n (a ∷ b ∷ []) false none = refl
new_name n (a ∷ b ∷ c ∷ rest) taken none = absurd (cc none)

pub record AreNew (earlier : List Line) (found : List BlifModel) : Type 0 where
  pub each : All (IsNewTo earlier) found
  pub differ : AllPairs NamesDiffer found

-- behind a line of this kind, of which the rest is new to the line and to those before
abbrev new_behind : LineKind → Line → List Line → List ℕ → Bool
new_behind k line earlier name = (is_model k && bytes_eq name (model_name line)) || is_model_name name earlier

weaker : (k : LineKind) (line : Line) (earlier : List Line) (found : List BlifModel) → All (λ m. new_behind k line earlier m.name ≡ false) found → All (IsNewTo earlier) found
weaker k line earlier found each = grind arith

other_names : (line : Line) (earlier : List Line) (name : List ℕ) → new_behind of.Model line earlier name ≡ false → model_name line ≢ name
other_names line earlier name is same = grind (arith, or_parts (bytes_eq name (model_name line)) (is_model_name name earlier) is, bytes_eq-same name name)

all_other : (line : Line) (earlier : List Line) (found : List BlifModel) (model : BlifModel) → model.name ≡ model_name line → All (λ m. new_behind of.Model line earlier m.name ≡ false) found → All (NamesDiffer model) found
all_other line earlier found model is each = grind (arith, All-weaker, other_names line earlier)

pub record AreNewBehind (k : LineKind) (line : Line) (earlier : List Line) (found : List BlifModel) : Type 0 where
  pub each : All (λ m. new_behind k line earlier m.name ≡ false) found
  pub differ : AllPairs NamesDiffer found

new_by_kind : (k : LineKind) (line : Line) (earlier : List Line) (rest : List Statement) → fault_at k line (place_behind earlier) (is_model_name (model_name line) earlier) ≡ None
    → AreNewBehind k line earlier (models rest) → AreNew earlier (models (statement_of_kind k line ∷ rest))
new_by_kind of.Model line earlier rest none new =
    let here = model_of (model_name line) (members rest) in
    record {
      each = All-cons (IsNewTo earlier) here (models rest) (new_name line.number line.words (is_model_name (model_name line) earlier) none) (weaker of.Model line earlier (models rest) new.each);
      differ = AllPairs-cons NamesDiffer here (models rest) (all_other line earlier (models rest) here refl new.each) new.differ;
    }
new_by_kind other line earlier rest none new = record { each = new.each; differ = new.differ }

new_models : (earlier rest : List Line) → first_fault earlier rest ≡ None → AreNew earlier (models (map statement rest))
new_models earlier [] none = record { each = All-nil (IsNewTo earlier); differ = λ i j d below inside. absurd (omega arith) }
new_models earlier (line ∷ rest) none = grind (arith, or_none (fault_of line earlier) (first_fault (line ∷ earlier) rest) none, new_models (line ∷ earlier) rest, new_by_kind (kind line) line earlier (map statement rest))

-- Where there are models there is no fault.
models_are : (fault : Option BlifFault) (all found : List BlifModel) → unless_fault fault all ≡ Ok found → (fault ≡ None) × (all ≡ found)
models_are (Some f) all found is = absurd (cc is)
models_are None [] found is = absurd (cc is)
models_are None (m ∷ ms) found is = (refl, cc is)

of_lines : (text : List ℕ) (all : Result (List Line) ℕ) (found : List BlifModel) → lines text true ≡ all → reads_lines all ≡ Ok found → length text ≤ 4000000000 → CanBeFlattened found
of_lines text (Err n) found are is few = absurd (cc is)
of_lines text (Ok all) found are is few =
    grind (arith, models_are (first_fault [] all) (models (map statement all)) found is, words_are_names text true all are, words_are_few text true all are, lines_count all, sound_models (map statement all), sound_statements [] all, new_models [] all)

pub can_be_flattened : (text : List ℕ) (found : List BlifModel) → reads text ≡ Ok found → length text ≤ 4000000000 → CanBeFlattened found
can_be_flattened text found is few = of_lines text (lines text true) found refl is few

-- No model has more inputs than its text has bytes.

abbrev HasFewInputs : ℕ → BlifModel → Type 0
HasFewInputs most model = length model.inputs ≤ most

few_in_models : (most : ℕ) (said : List Statement) → total input_count said ≤ most → All (HasFewInputs most) (models said)
few_in_models most [] few = All-nil (HasFewInputs most)
few_in_models most (Model name ∷ rest) few =
    grind (arith, flat_count (members rest), members_count rest, All-cons (HasFewInputs most) (model_of name (members rest)) (models rest), few_in_models most rest (few_behind (Model name) rest few), few_behind (Model name) rest few)
few_in_models most (other ∷ rest) few = few_in_models most rest (few_behind other rest few)

few_of_lines : (text : List ℕ) (all : Result (List Line) ℕ) (found : List BlifModel) → lines text true ≡ all → reads_lines all ≡ Ok found
    → All (λ model. length model.inputs ≤ length text) found
few_of_lines text all found are is = grind (arith, models_are, words_are_few, lines_count, few_in_models)

pub few_inputs : (text : List ℕ) (found : List BlifModel) → reads text ≡ Ok found → All (λ model. length model.inputs ≤ length text) found
few_inputs text found is = few_of_lines text (lines text true) found refl is
