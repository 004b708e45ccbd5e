-- A literal that says whether two values aren't known and equal.
use Rattle.std.specs.Prelude.{◌≡◌, ℕ, ◌<◌, ◌*◌, Bool, not, List, length}
use Rattle.cyc_base.specs.declared.trit.Trit.{Trit}
use Rattle.clause_formulas.specs.declared.formula.Formula.{Formula}
use Rattle.ternary_clauses.specs.declared.rails.Rails.{Rails}
use Rattle.clause_formulas.specs.Formulas.{says, IsModel, HasModelFrom, Grows}
use Rattle.ternary_clauses.specs.Nodes.{agreed}
use Rattle.ternary_clauses.specs.Rails.{is_known, Reads}

-- The new formula says nothing but that a literal is true unless the two values are known and equal.
pub record SaysApart (old new : Formula) (here there : Rails) (apart : ℕ) : Type 0 where
  pub grows : Grows old new
  pub within : apart < 2 * new.variables
  pub says_it : (m : List Bool) (s t : Trit) → IsModel m new → Reads m here s → Reads m there t → says m apart ≡ not (is_known (agreed s t))
  pub complete : (m : List Bool) → length m ≡ old.variables → IsModel m old → HasModelFrom new m
