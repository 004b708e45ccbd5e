-- Pairs of wires by the cases of a column.
use Rattle.std.proofs.Common.{◌≡◌, ℕ, List, [], ◌∷◌, ◌++◌, Bool, true, false, get_or, refl}
use Rattle.inner_pairs.proofs.Common.{Parts, Pair, CareSet, some_is_apart}
use Rattle.std.proofs.lemmas.List.Elements.{All-push}
use Rattle.care_sets.specs.Care.{IsCareVector}
use Rattle.clause_pairs.specs.declared.pairs.Fixed.{Fixed}
use Rattle.inner_pairs.specs.declared.cases.PairsTold.{PairsTold}
use Rattle.inner_pairs.specs.declared.cases.PairsTold.TheVariants.{Never, Apart, Open}
use Rattle.inner_pairs.specs.Cases.{TellsIn}
use Rattle.clause_pairs.specs.Apart.{AreNeverApartIn, HasFixed, IsInCube}

-- a column that has a value
abbrev pub fixed_at : ℕ → Bool → Fixed
fixed_at column value = record { column = column; value = value }

-- at a vector of a cube a column is 0 or 1
pub both_cases : (net : Parts) (care : CareSet) (cube : List Fixed) (pairs : List Pair) (column : ℕ) → AreNeverApartIn net care (cube ++ fixed_at column false ∷ []) pairs →
    AreNeverApartIn net care (cube ++ fixed_at column true ∷ []) pairs → AreNeverApartIn net care cube pairs
both_cases net care cube pairs column low high = λ v counts inside. by v counts inside (get_or v column false) refl
  where
    by : (v : List Bool) → IsCareVector net care v → IsInCube cube v → (b : Bool) → get_or v column false ≡ b → some_is_apart net pairs v ≡ false
    by v counts inside false e = low v counts (All-push (HasFixed v) cube (fixed_at column false) inside e)
    by v counts inside true e = high v counts (All-push (HasFixed v) cube (fixed_at column true) inside e)

-- so what is told of the second case is told of both where none is apart in the first
pub both_told : (net : Parts) (care : CareSet) (cube : List Fixed) (pairs : List Pair) (column : ℕ) → AreNeverApartIn net care (cube ++ fixed_at column false ∷ []) pairs →
    (told : PairsTold) → TellsIn net care (cube ++ fixed_at column true ∷ []) pairs told → TellsIn net care cube pairs told
both_told net care cube pairs column low Never high = both_cases net care cube pairs column low high
both_told net care cube pairs column low Apart high = tt
both_told net care cube pairs column low Open high = tt
