-- The least vector at which a function is true.
use Rattle.std.specs.Prelude.{◌≡◌, ◌<◌, ℕ, Bool, true, false, List, length, map}
use Rattle.std.specs.List.{slice_index_or}
use Rattle.cyc_base.specs.Vectors.{AtMost}

-- f is true at v, and at no vector before it
pub record IsLeast (f : List Bool → Bool) (v : List Bool) : Type 0 where
  pub true_there : f v ≡ true
  pub before_all : (w : List Bool) → length w ≡ length v → f w ≡ true → AtMost v w

-- the columns of the variables are the numbers below `vars`, each once
pub record IsLayout (vars : ℕ) (columns : List ℕ) : Type 0 where
  pub long : length columns ≡ vars
  pub within : (k : ℕ) → k < vars → slice_index_or columns k 0 < vars
  pub once : (j k : ℕ) → j < vars → k < vars → slice_index_or columns j 0 ≡ slice_index_or columns k 0 → j ≡ k

-- the bits by variable of a vector by column
abbrev pub by_variable : List ℕ → List Bool → List Bool
by_variable columns v = map (λ c. slice_index_or v c false) columns
