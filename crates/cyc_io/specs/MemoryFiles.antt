-- Files as a list of names and bytes.
use Rattle.std.specs.Prelude.{ℕ, List, [], ◌∷◌, Vec, All, ◌≢◌, Some, None, if◌then◌else◌}
use Rattle.std.specs.declared.option.Option.{Option}
use Rattle.std.specs.declared.alloc.Global.{Global}
use Rattle.std.specs.Str.{bytes_eq}

abbrev pub Entry : Type 0
Entry = List ℕ × Vec ℕ Global

abbrev pub file_of : List Entry → List ℕ → Option (List ℕ)
file_of [] name = None
file_of (file ∷ files) name = if bytes_eq file.0 name then Some file.1.items else file_of files name

-- no name comes twice
abbrev pub AreDistinct : List Entry → Type 0
AreDistinct [] = Unit {0}
AreDistinct (file ∷ files) = All (λ (other : Entry). other.0 ≢ file.0) files × AreDistinct files
