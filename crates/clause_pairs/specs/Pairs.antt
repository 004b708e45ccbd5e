-- Pairs of wires, as clauses.
use Rattle.std.specs.Prelude.{◌≡◌, ◌<◌, ◌*◌, ℕ, Bool, true, not, if◌then◌else◌, List, [], ◌∷◌, ◌++◌, length, map, All}
use Rattle.std.specs.List.{AllZip}
use Rattle.cyc_base.specs.declared.trit.Trit.{Trit}
use Rattle.netlist.specs.declared.parts.Parts.{Parts}
use Rattle.care_sets.specs.Care.{CareSet, IsCareVector}
use Rattle.clause_formulas.specs.declared.formula.Formula.{Formula}
use Rattle.ternary_clauses.specs.declared.rails.Rails.{Rails}
use Rattle.clause_formulas.specs.Formulas.{says, IsFormula, IsModel, HasModelFrom, Grows}
use Rattle.ternary_clauses.specs.Nodes.{agreed}
use Rattle.ternary_clauses.specs.Rails.{is_known, rails_at, Reads, AreRailsOf}
use Rattle.clause_queries.specs.Clauses.{IsWithin}
use Rattle.clause_queries.specs.Queries.{Problem, problem, HasNoModelUnder}
use Rattle.clause_pairs.specs.declared.apart.Asked.{Asked}
use Rattle.clause_decision.specs.declared.cones.Cone.{Cone}
use Rattle.clause_pairs.specs.declared.pairs.Fixed.{Fixed}
use Rattle.netlist.specs.declared.pair.Pair.{Pair}
use Rattle.clause_pairs.specs.Apart.{IsInCube}
use Rattle.clause_decision.specs.Cones.{IsCone, ReadsFix}

-- there are rails for both wires of a pair, which stand for values in each model
pub record HasRails (f : Formula) (rails : List Rails) (pair : Pair) : Type 0 where
  pub here_within : pair.here.0 < length rails
  pub here : AreRailsOf f (rails_at rails pair.here.0)
  pub there_within : pair.there.0 < length rails
  pub there : AreRailsOf f (rails_at rails pair.there.0)

-- the literal is true unless the wires of the pair are known and equal
abbrev pub SaysPair : List Bool → List Rails → Pair → ℕ → Type 0
SaysPair m rails pair l = (s t : Trit) → Reads m (rails_at rails pair.here.0) s → Reads m (rails_at rails pair.there.0) t →
    says m l ≡ not (is_known (agreed s t))

-- The new formula says nothing of the old one's variables that the old one doesn't, and this is a literal of it.
pub record AddsLiteral (old new : Formula) (l : ℕ) : Type 0 where
  pub grows : Grows old new
  pub within : l < 2 * new.variables
  pub complete : (m : List Bool) → length m ≡ old.variables → IsModel m old → HasModelFrom new m

-- and so for these
pub record AddLiterals (old new : Formula) (literals : List ℕ) : Type 0 where
  pub grows : Grows old new
  pub within : IsWithin new.variables literals
  pub complete : (m : List Bool) → length m ≡ old.variables → IsModel m old → HasModelFrom new m

-- The new formula says nothing but that each of these literals is true unless the wires of its pair are known and equal.
pub record SayPairs (old new : Formula) (rails : List Rails) (pairs : List Pair) (literals : List ℕ) : Type 0 where
  pub adds : AddLiterals old new literals
  pub says_each : (m : List Bool) → IsModel m new → AllZip (SaysPair m rails) pairs literals

-- these literals can be asked for: they are of the formula's variables
pub record AreAskable (asked : Asked) : Type 0 where
  pub assumed : IsWithin asked.cone.formula.variables asked.assumed.items
  pub hints : IsWithin asked.cone.formula.variables asked.hints.items
  pub pairs : IsWithin asked.cone.formula.variables asked.pairs.items

-- The new formula has the variables of the old one, and each of its models in which these literals are true.
pub record HoldsEach (old new : Formula) (literals : List ℕ) : Type 0 where
  pub formula : IsFormula new
  pub variables : new.variables ≡ old.variables
  pub complete : (m : List Bool) → IsModel m old → All (λ l. says m l ≡ true) literals → IsModel m new

-- none of these is true in a model with all literals of care
abbrev pub HaveNoModel : Problem → (care : List ℕ) → List ℕ → Type 0
HaveNoModel p care = All (λ l. HasNoModelUnder p (care ++ l ∷ []))

-- the literal that is true where a column has the value that is fixed for it
abbrev pub fixed_literal : List Rails → Fixed → ℕ
fixed_literal rails fixed = if fixed.value then (rails_at rails fixed.column).one else (rails_at rails fixed.column).zero

-- those of all that is fixed, and of care
abbrev pub assumed_literals : Cone → List Fixed → List ℕ
assumed_literals cone cube = map (fixed_literal cone.rails.items) cube ++ cone.inside ∷ cone.allowed ∷ []

-- these literals are true in a model that reads the least fixpoint of a care vector in the cube
abbrev pub HoldIn : Parts → CareSet → (marks : List Bool) → Formula → List Rails → List Fixed → List ℕ → Type 0
HoldIn net care marks f rails cube literals = (v : List Bool) → IsCareVector net care v → IsInCube cube v → (has : ReadsFix net marks f rails v) → All (λ l. says has.model l ≡ true) literals

-- a cone, in whose models the literals say so of these pairs, and literals that are assumed, for a cube
pub record TellPairs (net : Parts) (care : CareSet) (marks : List Bool) (cube : List Fixed) (pairs : List Pair) (asked : Asked) : Type 0 where
  pub cone : IsCone net care marks asked.cone.formula asked.cone.rails.items asked.cone.inside asked.cone.allowed
  pub assumed : HoldIn net care marks asked.cone.formula asked.cone.rails.items cube asked.assumed.items
  pub askable : AreAskable asked
  pub says_each : (m : List Bool) → IsModel m asked.cone.formula → AllZip (SaysPair m asked.cone.rails.items) pairs asked.pairs.items

-- no literal of a pair is true in a model with all that is assumed
abbrev pub AreRefuted : Asked → Type 0
AreRefuted asked = HaveNoModel (problem asked.cone.formula) asked.assumed.items asked.pairs.items
