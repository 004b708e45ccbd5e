-- What follows up to the next end is what looks back.
use Rattle.std.proofs.Common.{◌≡◌, Bool, true, false, not, List, [], ◌∷◌, map, refl, ap, ◌∙◌, arith}
use Rattle.blif_read.proofs.Common.{◌&&◌, if◌then◌else◌, Line, LineKind, Statement, kind, statement, statement_of_kind, members}
use Rattle.cover_logic.specs.declared.row.Row.{Row as CoverRow}
use Rattle.blif_read.specs.Places.{is_row}
use Rattle.blif_read.specs.Models.{rows_of}
use Rattle.blif_read.specs.Laws.{ends_model, reaches_model, lines_of_model, reaches_cover, rows_of_cover, row_of, ModelsLookBack, CoversLookBack}

false_either_way : (t : Bool) (reaches : Bool) → reaches ≡ false → (if t then false else reaches) ≡ false
false_either_way t reaches is = grind arith

false_or : (t : Bool) (reaches : Bool) → reaches ≡ false → (if t then reaches else false) ≡ false
false_or t reaches is = grind arith

-- Models.

skipped : (reaches ends : Bool) (line : Line) (found rest : List Line) → reaches ≡ false → (if reaches && not ends then line ∷ found else rest) ≡ rest
skipped reaches ends line found rest is = ap (λ t. if t && not ends then line ∷ found else rest) is

none_behind : (passed rest : List Line) → reaches_model passed ≡ false → lines_of_model passed rest ≡ []
none_behind passed [] is = refl
none_behind passed (line ∷ rest) is =
    grind (arith, skipped (reaches_model passed) (ends_model (kind line)) line (lines_of_model (line ∷ passed) rest) (lines_of_model (line ∷ passed) rest) is, none_behind (line ∷ passed) rest (false_either_way (ends_model (kind line)) (reaches_model passed) is), false_either_way (ends_model (kind line)) (reaches_model passed) is)

member_by_kind : (k : LineKind) (line : Line) (rest : List Statement) → members (statement_of_kind k line ∷ rest) ≡ (if ends_model k then [] else statement_of_kind k line ∷ members rest)
member_by_kind k line rest = grind arith

model_choice : (ends reaches : Bool) (line : Line) (more : List Statement) (found : List Line) → reaches ≡ true → (ends ≡ false → more ≡ map statement found) → (ends ≡ true → found ≡ [])
    → (if ends then [] else statement line ∷ more) ≡ map statement (if reaches && not ends then line ∷ found else found)
model_choice ends reaches line more found is goes none = grind arith

member_lines : (passed rest : List Line) → reaches_model passed ≡ true → members (map statement rest) ≡ map statement (lines_of_model passed rest)
member_lines passed [] is = refl
member_lines passed (line ∷ rest) is =
    let ends = ends_model (kind line) in
    member_by_kind (kind line) line (map statement rest)
    ∙ model_choice ends (reaches_model passed) line (members (map statement rest)) (lines_of_model (line ∷ passed) rest) is
    (λ goes. member_lines (line ∷ passed) rest (ap (λ (t : Bool). if t then false else reaches_model passed) goes ∙ is))
    (λ stops. none_behind (line ∷ passed) rest (ap (λ (t : Bool). if t then false else reaches_model passed) stops))

pub models_look_back : ModelsLookBack
models_look_back rest = member_lines [] rest refl

-- Covers.

no_rows_behind : (passed rest : List Line) → reaches_cover passed ≡ false → rows_of_cover passed rest ≡ []
no_rows_behind passed [] is = refl
no_rows_behind passed (line ∷ rest) is = grind (arith, no_rows_behind (line ∷ passed) rest (false_or (is_row (kind line)) (reaches_cover passed) is), false_or (is_row (kind line)) (reaches_cover passed) is)

row_by_kind : (k : LineKind) (line : Line) (rest : List Statement) → rows_of (statement_of_kind k line ∷ rest) ≡ (if is_row k then row_of line ∷ rows_of rest else [])
row_by_kind k line rest = grind arith

row_choice : (row reaches : Bool) (line : Line) (more : List CoverRow) (found : List Line) → reaches ≡ true → (row ≡ true → more ≡ map row_of found) → (row ≡ false → found ≡ [])
    → (if row then row_of line ∷ more else []) ≡ map row_of (if reaches && row then line ∷ found else found)
row_choice row reaches line more found is goes none = grind arith

row_lines : (passed rest : List Line) → reaches_cover passed ≡ true → rows_of (map statement rest) ≡ map row_of (rows_of_cover passed rest)
row_lines passed [] is = refl
row_lines passed (line ∷ rest) is =
    let row = is_row (kind line) in
    row_by_kind (kind line) line (map statement rest)
    ∙ row_choice row (reaches_cover passed) line (rows_of (map statement rest)) (rows_of_cover (line ∷ passed) rest) is
    (λ goes. row_lines (line ∷ passed) rest (ap (λ (t : Bool). if t then reaches_cover passed else false) goes ∙ is))
    (λ stops. no_rows_behind (line ∷ passed) rest (ap (λ (t : Bool). if t then reaches_cover passed else false) stops))

pub covers_look_back : CoversLookBack
covers_look_back rest = row_lines [] rest refl
