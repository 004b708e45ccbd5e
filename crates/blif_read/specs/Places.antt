-- Where a line lies, by looking back. The lines before it stand with the nearest first.
use Rattle.std.specs.Prelude.{ℕ, Bool, true, false, List, [], ◌∷◌, ◌||◌, ◌&&◌, bytes_eq, if◌then◌else◌, Some, None, option_map}
use Rattle.std.specs.declared.option.Option.{Option}
use Rattle.blif_text.specs.Texts.{Line}
use Rattle.blif_read.specs.declared.kind.LineKind.{LineKind}
use Rattle.blif_read.specs.declared.kind.LineKind.TheVariants.{Row, Model, Names, End}
use Rattle.blif_read.specs.declared.place.LinePlace.{LinePlace}
use Rattle.blif_read.specs.Kinds.{kind, arguments, model_name, pin_count, is_on}

abbrev pub is_model : LineKind → Bool
is_model Model = true
is_model other = false

abbrev pub is_end : LineKind → Bool
is_end End = true
is_end other = false

abbrev pub is_names : LineKind → Bool
is_names Names = true
is_names other = false

abbrev pub is_row : LineKind → Bool
is_row Row = true
is_row other = false

-- A model is in progress where the nearest earlier `.model` or `.end` line is a `.model` line.
abbrev pub in_model : List Line → Bool
in_model [] = false
in_model (line ∷ earlier) =
    if is_model (kind line) then true
    else (if is_end (kind line) then false
    else in_model earlier)

-- A row belongs to the nearest earlier directive, where that is a `.names` line.
abbrev pub cover_line : List Line → Option Line
cover_line [] = None
cover_line (line ∷ earlier) =
    if is_row (kind line) then cover_line earlier
    else (if is_names (kind line) then Some line
    else None)

abbrev pub this_unless : Line → Option Line → Option Line
this_unless line (Some first) = Some first
this_unless line None = Some line

-- The first of the rows that stand directly before.
abbrev pub first_row : List Line → Option Line
first_row [] = None
first_row (line ∷ earlier) =
    if is_row (kind line) then this_unless line (first_row earlier) else None

-- Where a line lies that follows earlier ones.
abbrev pub place_behind : List Line → LinePlace
place_behind earlier = record {
  in_model = in_model earlier;
  pins = option_map (λ names. pin_count (arguments names)) (cover_line earlier);
  first = option_map is_on (first_row earlier);
}

-- Whether an earlier `.model` line has the name.
abbrev pub is_model_name : List ℕ → List Line → Bool
is_model_name name [] = false
is_model_name name (line ∷ earlier) =
    (is_model (kind line) && bytes_eq name (model_name line)) || is_model_name name earlier
