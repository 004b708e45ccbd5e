-- The clauses of a formula one by one, and what a solver has room for.
use Rattle.std.specs.Prelude.{◌≤◌, ◌<◌, ℕ, zero, suc, ◌*◌, List, [], ◌∷◌, ◌++◌, length, All}
use Rattle.clause_formulas.specs.declared.formula.Formula.{Formula}

-- the clause that is begun, of which so many literals are left, and the clauses after it
abbrev pub clauses_from : ℕ → List ℕ → List ℕ → List (List ℕ)
clauses_from left begun [] = begun ∷ []
clauses_from zero begun (size ∷ rest) = begun ∷ clauses_from size [] rest
clauses_from (suc left) begun (l ∷ rest) = clauses_from left (begun ++ l ∷ []) rest

-- the clauses of a list in which the number of its literals stands before each
abbrev pub clauses_of : List ℕ → List (List ℕ)
clauses_of [] = []
clauses_of (size ∷ rest) = clauses_from size [] rest

-- a clause of the first so many variables
abbrev pub IsWithin : ℕ → List ℕ → Type 0
IsWithin variables = All (λ l. l < 2 * variables)

-- no more clauses than a solver takes, each of these variables
pub record AreTaken (variables : ℕ) (literals : List ℕ) : Type 0 where
  pub few : length (clauses_of literals) ≤ 4294967295
  pub within : All (IsWithin variables) (clauses_of literals)

-- no more variables and clauses than a solver takes, and none of another variable
pub record Fits (f : Formula) : Type 0 where
  pub few : f.variables ≤ 2147483647
  pub taken : AreTaken f.variables f.literals.items
