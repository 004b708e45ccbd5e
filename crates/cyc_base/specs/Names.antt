-- Names of the Berkeley Logic Interchange Format.
use Rattle.std.specs.Prelude.{ℕ, ◌≤◌, ◌≢◌, List, [], All}

-- a printed character that is neither a blank nor `#`
abbrev pub IsBlifByte : ℕ → Type 0
IsBlifByte b = (33 ≤ b) × (b ≤ 126) × (b ≢ 35)

abbrev pub IsBlifName : List ℕ → Type 0
IsBlifName name = (name ≢ []) × All IsBlifByte name
