-- Models by their names.
use Rattle.std.specs.Prelude.{ℕ, Bool, List}
use Rattle.std.specs.Str.{bytes_eq}
use Rattle.blif_read.specs.declared.models.BlifModel.{BlifModel}

abbrev pub has_name : List ℕ → BlifModel → Bool
has_name name model = bytes_eq model.name name
