-- Which of some gates is unknown first, as clauses.
use Rattle.std.specs.Prelude.{◌≡◌, ◌<◌, ◌+◌, ◌*◌, ℕ, Bool, List, [], ◌∷◌, length, map, take, All, slice_index_or}
use Rattle.std.specs.List.{list_any}
use Rattle.netlist.specs.declared.parts.Parts.{Parts}
use Rattle.care_sets.specs.Care.{CareSet}
use Rattle.clause_formulas.specs.declared.formula.Formula.{Formula}
use Rattle.ternary_clauses.specs.declared.rails.Rails.{Rails}
use Rattle.ternary_clauses.specs.Encoding.{gate_rails}
use Rattle.clause_formulas.specs.Formulas.{says, negation, IsModel}
use Rattle.clause_queries.specs.Clauses.{IsWithin}
use Rattle.clause_queries.specs.Queries.{problem, AreRising}
use Rattle.clause_decision.specs.declared.unknown.Unknowns.{Unknowns}
use Rattle.clause_decision.specs.Cones.{IsCone}

-- the literals that say that gates are unknown
abbrev pub unknown_literals : Parts → List Rails → List ℕ → List ℕ
unknown_literals net rails gates = map (λ n. negation (gate_rails net rails n).known) gates

-- a cone, in whose models each of these literals says whether one of the first so many gates is unknown
pub record TellUnknowns (net : Parts) (care : CareSet) (marks : List Bool) (f : Formula) (rails : List Rails) (inside allowed : ℕ) (gates sums : List ℕ) : Type 0 where
  pub cone : IsCone net care marks f rails inside allowed
  pub within : All (λ l. l < 2 * f.variables) sums
  pub size : length sums ≡ length gates
  pub says_each : (m : List Bool) → IsModel m f → (i : ℕ) → i < length gates →
      says m (slice_index_or sums i 0) ≡ list_any (says m) (take (i + 1) (unknown_literals net rails gates))

-- these literals can be asked for: they are of the formula's variables, and where one is true, the next one is
pub record AreRisingIn (u : Unknowns) : Type 0 where
  pub within : IsWithin u.cone.formula.variables u.sums.items
  pub care : IsWithin u.cone.formula.variables (u.cone.inside ∷ u.cone.allowed ∷ [])
  pub rising : AreRising (problem u.cone.formula) u.sums.items
