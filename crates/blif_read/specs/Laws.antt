-- What stands in a model and in a cover, by looking back.
use Rattle.std.specs.Prelude.{◌≡◌, Bool, true, false, not, ◌&&◌, ◌||◌, List, [], ◌∷◌, map, if◌then◌else◌}
use Rattle.cover_logic.specs.declared.row.Row.{Row}
use Rattle.blif_text.specs.Texts.{Line}
use Rattle.blif_read.specs.declared.kind.LineKind.{LineKind}
use Rattle.blif_read.specs.Kinds.{kind}
use Rattle.blif_read.specs.Places.{is_model, is_end, is_row}
use Rattle.blif_read.specs.Statements.{statement, lits_of}
use Rattle.blif_read.specs.Models.{members, rows_of}

abbrev pub ends_model : LineKind → Bool
ends_model k = is_model k || is_end k

-- Whether looking back over these lines, the nearest first, passes no `.model` and no `.end` line.
abbrev pub reaches_model : List Line → Bool
reaches_model [] = true
reaches_model (line ∷ earlier) = if ends_model (kind line) then false else reaches_model earlier

-- Of the lines that follow a `.model` line, those that look back to it. The lines passed so far stand with the nearest first.
abbrev pub lines_of_model : List Line → List Line → List Line
lines_of_model passed [] = []
lines_of_model passed (line ∷ rest) =
    if reaches_model passed && not (ends_model (kind line))
    then line ∷ lines_of_model (line ∷ passed) rest
    else lines_of_model (line ∷ passed) rest

-- Whether looking back over these lines passes no directive.
abbrev pub reaches_cover : List Line → Bool
reaches_cover [] = true
reaches_cover (line ∷ earlier) = if is_row (kind line) then reaches_cover earlier else false

-- Of the lines that follow a `.names` line, the rows whose nearest earlier directive it is.
abbrev pub rows_of_cover : List Line → List Line → List Line
rows_of_cover passed [] = []
rows_of_cover passed (line ∷ rest) =
    if reaches_cover passed && is_row (kind line)
    then line ∷ rows_of_cover (line ∷ passed) rest
    else rows_of_cover (line ∷ passed) rest

abbrev pub row_of : Line → Row
row_of line = record { lits = lits_of line.words }

-- A model has the lines that look back to its `.model` line.
abbrev pub ModelsLookBack : Type 0
ModelsLookBack = (rest : List Line) → members (map statement rest) ≡ map statement (lines_of_model [] rest)

-- A cover has the rows that look back to its `.names` line.
abbrev pub CoversLookBack : Type 0
CoversLookBack = (rest : List Line) → rows_of (map statement rest) ≡ map row_of (rows_of_cover [] rest)
