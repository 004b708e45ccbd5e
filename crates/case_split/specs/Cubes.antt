-- What a cube asks of columns.
use Rattle.std.specs.Prelude.{◌≡◌, ◌==◌, ℕ, Bool, true, false, if◌then◌else◌, List, [], ◌∷◌, All}
use Rattle.cover_logic.specs.declared.row.Lit.{Lit}
use Rattle.cover_logic.specs.declared.row.Lit.TheVariants.{Zero, One, Any}
use Rattle.case_split.specs.declared.cases.ColumnValue.{ColumnValue}

abbrev pub literal_of : Bool → Lit
literal_of true = One
literal_of false = Zero

-- what a cube asks of a column
abbrev pub asked_of : List ColumnValue → ℕ → Lit
asked_of [] column = Any
asked_of (literal ∷ cube) column = if literal.column == column then literal_of literal.value else asked_of cube column

-- it asks of no column both values
abbrev pub IsCube : List ColumnValue → Type 0
IsCube cube = All (λ literal. asked_of cube literal.column ≡ literal_of literal.value) cube
