-- Covers, why parts make none, and their value at Boolean pins.
use Rattle.std.specs.Prelude.{◌≡◌, ◌≤◌, ◌==◌, ◌||◌, ℕ, nat_le, Bool, true, false, not, if◌then◌else◌, List, [], ◌∷◌, length, All, Some, option_map}
use Rattle.std.specs.declared.option.Option.{Option}
use Rattle.std.specs.List.{position_from, list_any, list_all, zip}
use Rattle.cover_logic.specs.declared.row.Lit.{Lit}
use Rattle.cover_logic.specs.declared.row.Lit.TheVariants.{Zero, One, Any}
use Rattle.cover_logic.specs.declared.row.Row.{Row}
use Rattle.cover_logic.specs.declared.cover.CoverFault.{CoverFault}
use Rattle.cover_logic.specs.declared.cover.CoverFault.TheVariants.{TooManyPins, Width}

-- rows of literals; the plane is true where they list the values 1, and false where they list the values 0
pub record Cover : Type 0 where
  pub pins : ℕ
  pub plane : Bool
  pub rows : List Row

abbrev pub max_pins : ℕ
max_pins = 1024

abbrev pub has_width : ℕ → Row → Bool
has_width pins row = length row.lits == pins

-- what is true of each cover
pub record IsCover (cover : Cover) : Type 0 where
  pub pins : cover.pins ≤ max_pins
  pub width : All (λ row. length row.lits ≡ cover.pins) cover.rows
  pub plane : cover.rows ≡ [] → cover.plane ≡ true

-- too many pins, or else the first row that does not have a literal for each pin
abbrev pub first_fault : ℕ → List Row → Option CoverFault
first_fault pins rows =
    if nat_le pins max_pins
    then option_map Width (position_from (λ row. not (has_width pins row)) 0 rows)
    else Some TooManyPins

-- the cover of parts without a fault; one without rows is an on-plane
abbrev pub cover_of : ℕ → Bool → List Row → Cover
cover_of pins plane rows = record { pins = pins; plane = plane || (length rows == 0); rows = rows }

-- whether a literal allows the value of its pin
abbrev pub allows : Lit → Bool → Bool
allows Zero b = not b
allows One b = b
allows Any b = true

-- a row matches where no `0` stands at a 1 and no `1` at a 0
abbrev pub matches : List Lit → List Bool → Bool
matches lits bs = list_all (λ pin. allows pin.0 pin.1) (zip lits bs)

abbrev pub some_row_matches : List Row → List Bool → Bool
some_row_matches rows bs = list_any (λ row. matches row.lits bs) rows

-- in the on-plane 1 exactly where some row matches, in the off-plane 0 exactly there, and without rows 0
abbrev pub value_of_rows : Bool → List Row → List Bool → Bool
value_of_rows true rows bs = some_row_matches rows bs
value_of_rows false [] bs = false
value_of_rows false (row ∷ rows) bs = not (some_row_matches (row ∷ rows) bs)

-- the value of a cover
abbrev pub value : Cover → List Bool → Bool
value cover = value_of_rows cover.plane cover.rows
