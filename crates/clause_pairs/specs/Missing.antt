-- Clauses of the vectors that are in none of some cubes.
use Rattle.std.specs.Prelude.{◌≡◌, ◌∷◌, [], ◌++◌, ℕ, Bool, true, List, map, All}
use Rattle.std.specs.List.{list_any}
use Rattle.netlist.specs.declared.parts.Parts.{Parts}
use Rattle.care_sets.specs.Care.{CareSet}
use Rattle.clause_formulas.specs.declared.formula.Formula.{Formula}
use Rattle.ternary_clauses.specs.declared.rails.Rails.{Rails}
use Rattle.clause_formulas.specs.Formulas.{negation, says, IsFormula, IsModel}
use Rattle.clause_queries.specs.Clauses.{IsWithin}
use Rattle.clause_queries.specs.Queries.{problem, HasNoModelUnder}
use Rattle.clause_decision.specs.declared.care.CareFormula.{CareFormula}
use Rattle.clause_pairs.specs.declared.cubes.Cube.{Cube}
use Rattle.clause_pairs.specs.declared.pairs.Fixed.{Fixed}
use Rattle.clause_pairs.specs.Cubes.{AskedCare, LeaveNoneOut}
use Rattle.clause_pairs.specs.Pairs.{fixed_literal}

-- the literals of a cube and of care
abbrev pub literals_within : AskedCare → List Fixed → List ℕ
literals_within q cube = map (fixed_literal q.rails) cube ++ q.inside ∷ q.allowed ∷ []

-- the literal that is false where a column has the value that is fixed for it
abbrev pub missing_literal : List Rails → Fixed → ℕ
missing_literal rails fixed = negation (fixed_literal rails fixed)

-- some column has the other value in the model
abbrev pub misses : List Rails → List Bool → List Fixed → Bool
misses rails m cube = list_any (says m) (map (missing_literal rails) cube)

-- The new formula has the variables of the old one, and those of its models that miss these cubes.
pub record SaysMissing (old new : Formula) (rails : List Rails) (cubes : List Cube) : Type 0 where
  pub formula : IsFormula new
  pub variables : new.variables ≡ old.variables
  pub complete : (m : List Bool) → IsModel m old → All (λ cube. misses rails m cube.fixed ≡ true) cubes → IsModel m new

-- clauses without a model, where no care vector misses all these cubes
pub record AsksMissing (net : Parts) (care : CareSet) (cubes : List Cube) (said : CareFormula) : Type 0 where
  pub within : IsWithin said.formula.variables (said.inside ∷ said.allowed ∷ [])
  pub complete : HasNoModelUnder (problem said.formula) (said.inside ∷ said.allowed ∷ []) → LeaveNoneOut net care cubes
