-- Questions about vectors.
use Rattle.std.specs.Prelude.{◌≡◌, ℕ, Bool, List, length}
use Rattle.clause_queries.specs.Clauses.{IsWithin}
use Rattle.clause_queries.specs.Queries.{problem}
use Rattle.clause_queries.specs.Vectors.{Asks}
use Rattle.clause_decision.specs.declared.question.Question.{Question}

-- its literals are of the formula's variables
pub record IsAskable (q : Question) : Type 0 where
  pub columns : IsWithin q.formula.variables q.columns.items
  pub assumed : IsWithin q.formula.variables q.assumed.items

-- of the vectors of this width it asks for those that pass the test
pub record IsQuestionOf (width : ℕ) (test : List Bool → Bool) (q : Question) : Type 0 where
  pub askable : IsAskable q
  pub wide : length q.columns.items ≡ width
  pub asks : Asks (problem q.formula) q.columns.items q.assumed.items test
