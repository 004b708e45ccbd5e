-- The care set with the gates of a scope, as clauses.
use Rattle.std.specs.Prelude.{◌≡◌, ◌<◌, ◌*◌, ℕ, Bool, List, length, map, take, All}
use Rattle.cyc_base.specs.declared.trit.Trit.{Trit}
use Rattle.cyc_base.specs.Values.{Below, bits}
use Rattle.netlist.specs.declared.parts.Parts.{Parts}
use Rattle.netlist.specs.Fixpoint.{fix_gates}
use Rattle.netlist.specs.Netlists.{count, columns}
use Rattle.loops.specs.Sweeps.{value_in}
use Rattle.care_sets.specs.Care.{CareSet, is_allowed, is_in_invariant, state_of}
use Rattle.clause_formulas.specs.declared.formula.Formula.{Formula}
use Rattle.ternary_clauses.specs.declared.rails.Rails.{Rails}
use Rattle.ternary_clauses.specs.Encoding.{IsWanted, ReadsGates}
use Rattle.clause_formulas.specs.Formulas.{says, IsModel, IsFormula}
use Rattle.ternary_clauses.specs.Rails.{ReadsAll, AreWithin}

-- the vector that the columns' rails read
abbrev pub column_rails : Parts → List Rails → List Rails
column_rails net rails = take (columns net) rails

abbrev pub vector_in : Parts → List Rails → List Bool → List Bool
vector_in net rails m = map (λ r. says m r.one) (column_rails net rails)

-- the gates of the scope read a state that is above the least fixpoint of the vector
pub record ReadsAbove (net : Parts) (gates : List Bool) (rails : List Rails) (m v : List Bool) : Type 0 where
  pub state : List Trit
  pub reads : ReadsGates net gates rails m state
  pub above : (n : ℕ) → IsWanted net gates n → Below (value_in (fix_gates net (bits v)) n) (value_in state n)

-- a model reads the vector and its least fixpoint
pub record ReadsFix (net : Parts) (gates : List Bool) (f : Formula) (rails : List Rails) (v : List Bool) : Type 0 where
  pub model : List Bool
  pub long : length model ≡ f.variables
  pub holds : IsModel model f
  pub columns : ReadsAll model (column_rails net rails) (bits v)
  pub fixpoint : ReadsGates net gates rails model (fix_gates net (bits v))

-- In each model the columns read a vector, of which the literals tell whether its state is in the invariant and whether it
-- is allowed, and the gates of the scope a state above its least fixpoint; and each vector has a model that reads its least
-- fixpoint.
pub record IsCone (net : Parts) (care : CareSet) (gates : List Bool) (f : Formula) (rails : List Rails) (inside allowed : ℕ) : Type 0 where
  pub formula : IsFormula f
  pub within : All (AreWithin f.variables) rails
  pub size : length rails ≡ count net
  pub inside_within : inside < 2 * f.variables
  pub allowed_within : allowed < 2 * f.variables
  pub sound : (m : List Bool) → IsModel m f → ReadsAll m (column_rails net rails) (bits (vector_in net rails m))
  pub inside_tells : (m : List Bool) → IsModel m f → says m inside ≡ is_in_invariant care (state_of net (vector_in net rails m))
  pub allowed_tells : (m : List Bool) → IsModel m f → says m allowed ≡ is_allowed care (vector_in net rails m)
  pub above : (m : List Bool) → IsModel m f → ReadsAbove net gates rails m (vector_in net rails m)
  pub complete : (v : List Bool) → length v ≡ columns net → ReadsFix net gates f rails v
