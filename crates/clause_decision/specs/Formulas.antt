-- Formulas over the columns of a netlist, and literals that say of a vector whether it passes a test.
use Rattle.std.specs.Prelude.{◌≡◌, ◌<◌, ◌≤◌, ◌*◌, ◌-◌, ℕ, Bool, List, length, map, All, slice_index_or}
use Rattle.cyc_base.specs.declared.trit.Trit.TheVariants.{X}
use Rattle.cyc_base.specs.Values.{bits}
use Rattle.netlist.specs.Netlists.{columns}
use Rattle.netlist.specs.declared.parts.Parts.{Parts}
use Rattle.netlist.specs.Fixpoint.{outs}
use Rattle.care_sets.specs.declared.model.CareModel.{CareModel}
use Rattle.care_sets.specs.Care.{CareSet, is_one, is_allowed, is_in_invariant, state_of}
use Rattle.clause_formulas.specs.declared.formula.Formula.{Formula}
use Rattle.ternary_clauses.specs.declared.rails.Rails.{Rails}
use Rattle.clause_formulas.specs.Formulas.{says, IsModel, IsFormula, HasModelFrom, Grows}
use Rattle.ternary_clauses.specs.Rails.{ReadsAll, AreWithin}

-- The new formula says in addition what a literal says: whether the values that the rails read pass a test.
pub record SaysTest (old new : Formula) (rails : List Rails) (test : List Bool → Bool) (literal : ℕ) : Type 0 where
  pub grows : Grows old new
  pub within : literal < 2 * new.variables
  pub says_it : (m values : List Bool) → IsModel m new → ReadsAll m rails (bits values) → says m literal ≡ test values
  pub complete : (m values : List Bool) → length m ≡ old.variables → IsModel m old → ReadsAll m rails (bits values) → HasModelFrom new m

-- the output of a model is 1 where its inputs have these values
abbrev pub accepts : Parts → List Bool → Bool
accepts model inputs = is_one (slice_index_or (outs model (bits inputs)) 0 X)

-- a model of the formula in which the rails read the vector
pub record HasVector (f : Formula) (rails : List Rails) (v : List Bool) : Type 0 where
  pub model : List Bool
  pub long : length model ≡ f.variables
  pub holds : IsModel model f
  pub reads : ReadsAll model rails (bits v)

-- each model reads a vector, and each vector of that width is read by a model
pub record IsOver (f : Formula) (rails : List Rails) (width : ℕ) : Type 0 where
  pub formula : IsFormula f
  pub within : All (AreWithin f.variables) rails
  pub size : length rails ≡ width
  pub sound : (m : List Bool) → IsModel m f → ReadsAll m rails (bits (map (λ r. says m r.one) rails))
  pub complete : (v : List Bool) → length v ≡ width → HasVector f rails v

-- the literal says whether the vector that the rails read passes a test
abbrev pub TellsOf : Formula → List Rails → (List Bool → Bool) → ℕ → Type 0
TellsOf f rails test literal = (m v : List Bool) → IsModel m f → ReadsAll m rails (bits v) → says m literal ≡ test v

-- A formula over the columns of a netlist, with literals that say whether a vector's state is in the invariant, and
-- whether it is allowed.
pub record IsCareFormula (net : Parts) (care : CareSet) (f : Formula) (rails : List Rails) (inside allowed : ℕ) : Type 0 where
  pub over : IsOver f rails (columns net)
  pub inside_within : inside < 2 * f.variables
  pub inside_tells : TellsOf f rails (λ v. is_in_invariant care (state_of net v)) inside
  pub allowed_within : allowed < 2 * f.variables
  pub allowed_tells : TellsOf f rails (is_allowed care) allowed

-- the model reads columns from a first one on, of so many
pub record ReadsWithin (first width : ℕ) (model : CareModel) : Type 0 where
  pub start : model.first ≡ first
  pub late : All (λ column. first ≤ column) model.columns
  pub within : All (λ column. column - first < width) model.columns
