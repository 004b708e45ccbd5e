-- The values of variables while the search goes on, when some are open.
use Rattle.std.specs.Prelude.{ℕ, ◌/◌, ◌%◌, Bool, true, false, List, map, count_by, if◌then◌else◌, ◌==◌, slice_index_or, slice_set}
use Rattle.sat.specs.declared.lit.Lit.{Lit}
use Rattle.sat.specs.declared.values.Truth.{Truth}
use Rattle.sat.specs.declared.values.Truth.TheVariants.{Open, True, False}
use Rattle.sat.specs.Cnf.{assignment}

abbrev pub opposite : Truth → Truth
opposite Open = Open
opposite True = False
opposite False = True

abbrev pub is_true : Truth → Bool
is_true Open = false
is_true True = true
is_true False = false

abbrev pub is_open : Truth → Bool
is_open Open = true
is_open True = false
is_open False = false

-- the value of a literal; variables past the end are false
abbrev pub value_of : List Truth → Lit → Truth
value_of values l = if (l.code % 2) == 0 then slice_index_or values (l.code / 2) False else opposite (slice_index_or values (l.code / 2) False)

-- the values with a literal made true
abbrev pub assigned : List Truth → Lit → List Truth
assigned values l = slice_set values (l.code / 2) (if (l.code % 2) == 0 then True else False)

abbrev pub open_count : List Truth → ℕ
open_count values = count_by is_open values

-- the assignment in which open variables are false
abbrev pub valuation : List Truth → ℕ → Bool
valuation values = assignment (map is_true values)
