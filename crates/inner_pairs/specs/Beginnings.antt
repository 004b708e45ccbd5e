-- The values that the least care vector begins with on which the wires of some pair are apart.
use Rattle.std.specs.Prelude.{◌≡◌, ◌++◌, ◌∷◌, [], Bool, true, false, List, length, map, take, slice_index_or}
use Rattle.std.specs.List.{range_with_len}
use Rattle.cyc_base.specs.Vectors.{AtMost}
use Rattle.netlist.specs.declared.parts.Parts.{Parts}
use Rattle.care_sets.specs.Care.{CareSet, IsCareVector, is_care_vector}
use Rattle.clause_pairs.specs.declared.pairs.Fixed.{Fixed}
use Rattle.netlist.specs.declared.pair.Pair.{Pair}
use Rattle.netlist.specs.Pairs.{some_is_apart}

-- the first columns fixed at these values
abbrev pub cube_of : List Bool → List Fixed
cube_of values = map (λ column. record { column = column; value = slice_index_or values column false }) (range_with_len 0 (length values))

-- each care vector on which some pair is apart begins with at least these values
abbrev pub IsLeastBeginning : Parts → CareSet → List Pair → List Bool → Type 0
IsLeastBeginning net care pairs values = (w : List Bool) → IsCareVector net care w → some_is_apart net pairs w ≡ true → AtMost values (take (length values) w)

-- and with this one behind them
abbrev pub IsNextValue : Parts → CareSet → List Pair → List Bool → Bool → Type 0
IsNextValue net care pairs values value = IsLeastBeginning net care pairs values → IsLeastBeginning net care pairs (values ++ value ∷ [])

-- a care vector, on which some pair is apart
pub record IsApartAt (net : Parts) (care : CareSet) (pairs : List Pair) (v : List Bool) : Type 0 where
  pub counts : is_care_vector net care v ≡ true
  pub apart : some_is_apart net pairs v ≡ true
