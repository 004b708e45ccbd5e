-- Literals that say whether one of the first so many others is true.
use Rattle.std.specs.Prelude.{◌≡◌, ℕ, ◌<◌, ◌+◌, ◌*◌, ◌||◌, Bool, List, length, take, All, slice_index_or}
use Rattle.std.specs.List.{list_any}
use Rattle.clause_formulas.specs.declared.formula.Formula.{Formula}
use Rattle.clause_formulas.specs.Formulas.{says, IsModel, HasModelFrom, Grows}

-- The new formula says nothing but that a literal is true where one of two others is.
pub record SaysOr (old new : Formula) (a b sum : ℕ) : Type 0 where
  pub grows : Grows old new
  pub within : sum < 2 * new.variables
  pub says_it : (m : List Bool) → IsModel m new → says m sum ≡ (says m a || says m b)
  pub complete : (m : List Bool) → length m ≡ old.variables → IsModel m old → HasModelFrom new m

-- The new formula says nothing but that each of these literals is true where one of the first so many of the others is.
pub record SaysAny (old new : Formula) (literals sums : List ℕ) : Type 0 where
  pub grows : Grows old new
  pub within : All (λ l. l < 2 * new.variables) sums
  pub size : length sums ≡ length literals
  pub says_each : (m : List Bool) → IsModel m new → (i : ℕ) → i < length literals →
      says m (slice_index_or sums i 0) ≡ list_any (says m) (take (i + 1) literals)
  pub complete : (m : List Bool) → length m ≡ old.variables → IsModel m old → HasModelFrom new m
