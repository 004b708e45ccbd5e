-- How a name holds its bytes.
use Rattle.std.specs.Prelude.{◌≤◌, ℕ, List, take}
use Rattle.cyc_base.specs.declared.name.Held.{Held}
use Rattle.cyc_base.specs.declared.name.Held.TheVariants.{InPlace, Allocated}

abbrev pub bytes_of : Held → List ℕ
bytes_of (InPlace short) = take short.length short.place
bytes_of (Allocated bytes) = bytes.items

-- what is in place fits its place
abbrev pub IsWithin : Held → Type 0
IsWithin (InPlace short) = short.length ≤ 30
IsWithin (Allocated bytes) = Unit {0}
