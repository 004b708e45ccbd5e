-- The vectors that the models of a problem have in some columns, which are literals.
use Rattle.std.specs.Prelude.{◌≡◌, ℕ, Bool, true, List, length, map, find, is_some, Some, None}
use Rattle.std.specs.declared.option.Option.{Option}
use Rattle.cyc_base.specs.Vectors.{vectors, AtMost}
use Rattle.clause_formulas.specs.Formulas.{says}
use Rattle.clause_queries.specs.Queries.{Problem, IsModelUnder, HasNoModelUnder}
use Rattle.clause_queries.specs.declared.least.Found.{Found}
use Rattle.clause_queries.specs.declared.least.Found.TheVariants as founds

-- the vector of an assignment
abbrev pub vector_of : List ℕ → List Bool → List Bool
vector_of columns m = map (says m) columns

-- some model under the assumptions has this vector
pub record HasVector (p : Problem) (columns assumptions : List ℕ) (v : List Bool) : Type 0 where
  pub model : List Bool
  pub under : IsModelUnder p assumptions model
  pub reads : vector_of columns model ≡ v

-- the vectors of the models under the assumptions are those that pass the test
pub record Asks (p : Problem) (columns assumptions : List ℕ) (passes : List Bool → Bool) : Type 0 where
  pub sound : (m : List Bool) → IsModelUnder p assumptions m → passes (vector_of columns m) ≡ true
  pub complete : (v : List Bool) → length v ≡ length columns → passes v ≡ true → HasVector p columns assumptions v

-- the least vector of the models under the assumptions, 0 before 1
pub record IsLeastVector (p : Problem) (columns assumptions : List ℕ) (v : List Bool) : Type 0 where
  pub some : HasVector p columns assumptions v
  pub least : (m : List Bool) → IsModelUnder p assumptions m → AtMost v (vector_of columns m)

abbrev pub IsFound : Problem → List ℕ → List ℕ → Found → Type 0
IsFound p columns assumptions (founds.Least v) = IsLeastVector p columns assumptions v.items
IsFound p columns assumptions founds.NoVector = HasNoModelUnder p assumptions
IsFound p columns assumptions founds.Unknown = Unit {0}

-- Of all vectors that pass a test:

-- what is found is the first
abbrev pub IsFirstOf : (List Bool → Bool) → ℕ → Found → Type 0
IsFirstOf passes width (founds.Least v) = find passes (vectors width) ≡ Some v.items
IsFirstOf passes width founds.NoVector = find passes (vectors width) ≡ None
IsFirstOf passes width founds.Unknown = Unit {0}

-- whether there is one
abbrev pub TellsWhetherAny : (List Bool → Bool) → ℕ → Option Bool → Type 0
TellsWhetherAny passes width (Some some) = is_some (find passes (vectors width)) ≡ some
TellsWhetherAny passes width None = Unit {0}
