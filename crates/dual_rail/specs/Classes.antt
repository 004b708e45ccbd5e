-- Classes of rows that agree from a pin on.
use Rattle.std.specs.Prelude.{◌≡◌, ◌<◌, ◌-◌, ℕ, nat_le, Bool, List, [], length, map, Some, None}
use Rattle.std.specs.declared.option.Option.{Option}
use Rattle.std.specs.List.{slice_index_or}
use Rattle.cover_logic.specs.declared.row.Lit.{Lit}
use Rattle.cover_logic.specs.declared.row.Lit.TheVariants.{Zero, One, Any}
use Rattle.cover_logic.specs.declared.row.Row.{Row}
use Rattle.dual_rail.specs.declared.classes.Firsts.{Firsts}
use Rattle.dual_rail.specs.declared.classes.Classes.{Classes}
use Rattle.dual_rail.specs.Expansion.{literal, suffix, end_of}

abbrev pub number : List ℕ → ℕ → ℕ
number numbers row = slice_index_or numbers row row

-- rows have one number where they agree from the pin on, and there alone, and it is that of a row among them
pub record AreClasses (rows : List Row) (pin : ℕ) (numbers : List ℕ) : Type 0 where
  pub each : length numbers ≡ length rows
  pub member : (row : ℕ) → row < length rows → number numbers row < length rows
  pub agrees : (row : ℕ) → row < length rows → suffix rows pin (number numbers row) ≡ suffix rows pin row
  pub one : (row other : ℕ) → row < length rows → other < length rows → suffix rows pin row ≡ suffix rows pin other → number numbers row ≡ number numbers other

-- the classes of a pin, or of the end
abbrev pub classes_at : Classes → ℕ → List ℕ
classes_at classes pin = slice_index_or classes.at_pins.items pin []

abbrev pub class_of : Classes → ℕ → ℕ → ℕ
class_of classes pin = number (classes_at classes pin)

-- the classes at each pin and at the end
abbrev pub AreClassesOf : List Row → Classes → Type 0
AreClassesOf rows classes = (pin : ℕ) → pin < length classes.at_pins.items → AreClasses rows pin (classes_at classes pin)

-- where each row ends
abbrev pub AreEndsOf : List Row → Classes → Type 0
AreEndsOf rows classes = classes.ends ≡ map (λ row. end_of row.lits) rows

-- whether a pin stands behind the end of a row
abbrev pub is_behind_end : Classes → ℕ → ℕ → Bool
is_behind_end classes pin row = nat_le (slice_index_or classes.ends row 0) pin

-- the classes from the end, behind so many pins, back
abbrev pub AreClassesBack : List Row → ℕ → List (List ℕ) → Type 0
AreClassesBack rows pins classes = (back : ℕ) → back < length classes → AreClasses rows (pins - back) (slice_index_or classes back [])

-- no row was met yet
abbrev pub none : Firsts
none = record { zero = None; one = None; any = None }

-- the first row with a literal
abbrev pub first_of : Firsts → Lit → Option ℕ
first_of firsts Zero = firsts.zero
first_of firsts One = firsts.one
first_of firsts Any = firsts.any

-- the first row of a class with a literal
abbrev pub first_in : List Firsts → ℕ → Lit → Option ℕ
first_in firsts class = first_of (slice_index_or firsts class none)

-- the rows that have numbers have those of the first rows with their literal at the pin and their class at the next one
pub record AreNumbered (rows : List Row) (pin : ℕ) (rests : List ℕ) (firsts : List Firsts) (numbers : List ℕ) : Type 0 where
  pub each_first : (class : ℕ) (lit : Lit) (row : ℕ) → first_in firsts class lit ≡ Some row → (row < length numbers) × (number rests row ≡ class) × (literal rows row pin ≡ lit)
  pub each_number : (row : ℕ) → row < length numbers → first_in firsts (number rests row) (literal rows row pin) ≡ Some (number numbers row)
