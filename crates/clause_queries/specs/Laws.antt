-- What a query's models are.
use Rattle.std.specs.Prelude.{◌≡◌, Bool, List}
use Rattle.clause_formulas.specs.declared.formula.Formula.{Formula}
use Rattle.clause_formulas.specs.Formulas.{holds}
use Rattle.clause_queries.specs.Queries.{problem, is_model}

-- an assignment satisfies each clause of a formula exactly where it is a model of it
abbrev pub ModelsAreOfFormula : Type 0
ModelsAreOfFormula = (f : Formula) (m : List Bool) → is_model (problem f) m ≡ holds m f.literals.items
