-- Columns: new variables, each a value that is known.
use Rattle.std.specs.Prelude.{◌≡◌, ℕ, Bool, List, length, map, All, ◌++◌}
use Rattle.cyc_base.specs.Values.{bits}
use Rattle.clause_formulas.specs.declared.formula.Formula.{Formula}
use Rattle.ternary_clauses.specs.declared.rails.Rails.{Rails}
use Rattle.clause_formulas.specs.Formulas.{says, IsModel, Grows}
use Rattle.ternary_clauses.specs.Rails.{ReadsAll, AreWithin}

-- the vector of an assignment: the values of the rails that are known
abbrev pub vector_read : List Bool → List Rails → List Bool
vector_read m rails = map (λ r. says m r.one) rails

-- a model, with values for these further variables, in which the rails stand for a vector
pub record HasVector (f : Formula) (rails : List Rails) (m v : List Bool) : Type 0 where
  pub more : List Bool
  pub width : length (m ++ more) ≡ f.variables
  pub model : IsModel (m ++ more) f
  pub reads : ReadsAll (m ++ more) rails (bits v)

-- The new formula says nothing but that the rails stand for a vector of this width, and it may be each.
pub record SaysColumns (old new : Formula) (rails : List Rails) (count : ℕ) : Type 0 where
  pub grows : Grows old new
  pub within : All (AreWithin new.variables) rails
  pub size : length rails ≡ count
  pub known : All (λ r. r.known ≡ 0) rails
  pub sound : (m : List Bool) → IsModel m new → ReadsAll m rails (bits (vector_read m rails))
  pub complete : (m v : List Bool) → length m ≡ old.variables → IsModel m old → length v ≡ count → HasVector new rails m v
