-- That the list of all vectors is complete and in order.
use Rattle.std.specs.Prelude.{◌≡◌, ◌≢◌, ℕ, Bool, List, length, AllPairs, Contains}
use Rattle.cyc_base.specs.Vectors.{vectors, AtMost}

-- it is at most the other, and another
pub record IsBefore (v w : List Bool) : Type 0 where
  pub most : AtMost v w
  pub other : v ≢ w

-- the list has each vector of the width, once and in order, and no other
pub record ListsEachVector (width : ℕ) (vs : List (List Bool)) : Type 0 where
  pub widths : (v : List Bool) → Contains vs v → length v ≡ width
  pub all : (v : List Bool) → length v ≡ width → Contains vs v
  pub order : AllPairs IsBefore vs

abbrev pub VectorsAreListed : Type 0
VectorsAreListed = (width : ℕ) → ListsEachVector width (vectors width)
