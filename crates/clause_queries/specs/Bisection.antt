-- Where the first literal that can be true is looked for.
use Rattle.std.specs.Prelude.{◌<◌, ℕ, List, [], ◌∷◌, ◌++◌, length, slice_index}
use Rattle.clause_queries.specs.Queries.{Problem, HasModelUnder, HasNoModelUnder}

-- none before `low` can be true, and the one at `high` can
pub record IsOpen (p : Problem) (literals assumptions : List ℕ) (low high : ℕ) : Type 0 where
  pub within : high < length literals
  pub possible : HasModelUnder p (assumptions ++ slice_index literals high ∷ [])
  pub before : (j : ℕ) → j < low → HasNoModelUnder p (assumptions ++ slice_index literals j ∷ [])
