-- The clauses of a formula as a solver holds them.
use Rattle.std.specs.Prelude.{◌≡◌, ◌<◌, ◌*◌, ℕ, List, length, map, All}
use Rattle.sat.specs.declared.lit.Lit.{Lit}
use Rattle.clause_queries.specs.declared.names.Names.{Names}
use Rattle.clause_queries.specs.Clauses.{clauses_of, AreTaken}
use Rattle.clause_queries.specs.Names.{own, named, AreNames, HasNumber}
use Rattle.clause_queries.specs.Queries.{Problem}

-- what the solver's clauses are in the formula's variables
abbrev pub loaded : ℕ → Names → List (List Lit) → Problem
loaded variables names formula = record { variables = variables; clauses = map (map (named names)) formula }

-- clauses of the first so many variables
abbrev pub AreOf : ℕ → List (List Lit) → Type 0
AreOf variables = All (All (λ l. l.code < 2 * variables))

-- the solver's clauses are of variables that stand for the formula's
pub record IsLoaded (variables : ℕ) (names : Names) (formula : List (List Lit)) : Type 0 where
  pub names_are : AreNames names
  pub width : length names.numbers.items ≡ variables
  pub within : AreOf (length names.names.items) formula

-- the solver holds the clauses of the list, which it takes
pub record AreLoaded (variables : ℕ) (names : Names) (literals : List ℕ) (formula : List (List Lit)) : Type 0 where
  pub are : formula ≡ map (map (own names)) (clauses_of literals)
  pub taken : AreTaken variables literals
  pub numbered : All (All (HasNumber names)) (clauses_of literals)
