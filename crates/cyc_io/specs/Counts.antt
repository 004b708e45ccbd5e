-- Counts of faults that are kept by name.
use Rattle.std.specs.Prelude.{ℕ, List}
use Rattle.std.specs.declared.hash.FoldHasher.{FoldHasher}
use Rattle.std.specs.declared.hash.BuildHasherDefault.{BuildHasherDefault}
use Rattle.std.specs.HashMap.{HashMap}
use Rattle.std.specs.Map.{count_at, lookup}
use Rattle.std.specs.Str.{bytes_eq}
use Rattle.cyc_io.specs.Faults.{Counts}

-- the count of each name, which is 0 for one that isn't listed
abbrev pub count_in : List (List ℕ × ℕ) → Counts
count_in listed = count_at (λ name. lookup (bytes_eq name) listed)

abbrev pub Kept : Type 0
Kept = HashMap (List ℕ) ℕ (BuildHasherDefault FoldHasher)

abbrev pub count_of : Kept → Counts
count_of counts = count_in counts.entries
