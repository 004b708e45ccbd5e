-- Columns that are fixed one by one, each as low as it can be.
use Rattle.std.specs.Prelude.{◌≡◌, ℕ, Bool, List}
use Rattle.cyc_base.specs.Vectors.{AtMost}
use Rattle.clause_queries.specs.Queries.{Problem, IsModelUnder}
use Rattle.clause_queries.specs.Vectors.{vector_of}

-- Of the models under the assumptions, those under what is fixed are the ones that have the model's vector in these
-- columns; and it is the least.
pub record IsFixed (p : Problem) (assumptions columns fixed : List ℕ) (model : List Bool) : Type 0 where
  pub under : IsModelUnder p fixed model
  pub assumed : (m : List Bool) → IsModelUnder p fixed m → IsModelUnder p assumptions m
  pub same : (m : List Bool) → IsModelUnder p fixed m → vector_of columns m ≡ vector_of columns model
  pub all : (m : List Bool) → IsModelUnder p assumptions m → vector_of columns m ≡ vector_of columns model → IsModelUnder p fixed m
  pub least : (m : List Bool) → IsModelUnder p assumptions m → AtMost (vector_of columns model) (vector_of columns m)
