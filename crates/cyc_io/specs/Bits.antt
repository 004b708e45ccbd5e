-- The text of bits: a digit for each.
use Rattle.std.specs.Prelude.{ℕ, Bool, true, false, List, codes}
use Rattle.std.specs.List.{flat_map}

abbrev pub bit_text : Bool → List ℕ
bit_text false = codes "0"
bit_text true = codes "1"

abbrev pub bits_text : List Bool → List ℕ
bits_text bits = flat_map bit_text bits
