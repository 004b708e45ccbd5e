-- Cubes of columns, and care vectors.
use Rattle.std.specs.Prelude.{◌≡◌, ◌<◌, ◌∷◌, [], ◌++◌, ℕ, Bool, true, false, List, length, slice_index_or, All, Any}
use Rattle.netlist.specs.declared.parts.Parts.{Parts}
use Rattle.care_sets.specs.Care.{CareSet, IsCareVector}
use Rattle.clause_formulas.specs.declared.formula.Formula.{Formula}
use Rattle.ternary_clauses.specs.declared.rails.Rails.{Rails}
use Rattle.ternary_clauses.specs.Rails.{AreWithin}
use Rattle.clause_queries.specs.Clauses.{IsWithin}
use Rattle.clause_queries.specs.Queries.{Problem, problem}
use Rattle.clause_pairs.specs.declared.cubes.Cube.{Cube}
use Rattle.clause_pairs.specs.declared.pairs.Fixed.{Fixed}
use Rattle.clause_pairs.specs.Apart.{IsInCube}
use Rattle.clause_decision.specs.Formulas.{IsCareFormula}

-- no care vector is in the cube
abbrev pub IsRuledOut : Parts → CareSet → List Fixed → Type 0
IsRuledOut net care cube = (v : List Bool) → IsCareVector net care v → ¬ IsInCube cube v

-- marks for values: where one has a mark, no care vector in the cube has it
pub record RuleOutEach (net : Parts) (care : CareSet) (cube values : List Fixed) (marks : List Bool) : Type 0 where
  pub width : length marks ≡ length values
  pub out : (i : ℕ) (d : Fixed) → i < length values → slice_index_or marks i false ≡ true → IsRuledOut net care (cube ++ slice_index_or values i d ∷ [])

-- each care vector is in one of the cubes
abbrev pub LeaveNoneOut : Parts → CareSet → List Cube → Type 0
LeaveNoneOut net care cubes = (v : List Bool) → IsCareVector net care v → Any (λ cube. IsInCube cube.fixed v) cubes

-- what contracts see of questions of a care set: the rails of the columns, the literals of care, and the clauses
pub record AskedCare : Type 0 where
  pub rails : List Rails
  pub inside : ℕ
  pub allowed : ℕ
  pub problem : Problem

-- all literals are of the clauses' variables
pub record CanAsk (q : AskedCare) : Type 0 where
  pub rails : All (AreWithin q.problem.variables) q.rails
  pub care : IsWithin q.problem.variables (q.inside ∷ q.allowed ∷ [])

abbrev pub asked_of : Formula → List Rails → (inside allowed : ℕ) → AskedCare
asked_of f rails inside allowed = record { rails = rails; inside = inside; allowed = allowed; problem = problem f }

-- literals of a formula
pub record IsSaying (f : Formula) (rails : List Rails) (inside allowed : ℕ) : Type 0 where
  pub rails_are : All (AreWithin f.variables) rails
  pub care_is : IsWithin f.variables (inside ∷ allowed ∷ [])

-- there are rails for these columns
abbrev pub AreColumnsOf : AskedCare → List Fixed → Type 0
AreColumnsOf q values = All (λ fixed. fixed.column < length q.rails) values

-- they ask of the care set of a netlist
pub record AsksCare (net : Parts) (care : CareSet) (q : AskedCare) : Type 0 where
  pub formula : Formula
  pub says_care : IsCareFormula net care formula q.rails q.inside q.allowed
  pub asks : q.problem ≡ problem formula
