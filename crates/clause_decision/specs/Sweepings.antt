-- A loop after some sweeps, as clauses on top of a cone.
use Rattle.std.specs.Prelude.{◌≡◌, ◌≢◌, ◌<◌, ◌+◌, ◌*◌, ℕ, Bool, true, List, length, map, All, Contains}
use Rattle.std.specs.List.{list_any}
use Rattle.cyc_base.specs.declared.trit.Trit.{Trit}
use Rattle.cyc_base.specs.declared.trit.Trit.TheVariants.{X}
use Rattle.cyc_base.specs.Values.{bits}
use Rattle.netlist.specs.declared.parts.Parts.{Parts}
use Rattle.loops.specs.Cuts.{Loops}
use Rattle.loops.specs.Sweeps.{sweeps, value_in}
use Rattle.care_sets.specs.Care.{CareSet, IsCareVector}
use Rattle.clause_formulas.specs.declared.formula.Formula.{Formula}
use Rattle.ternary_clauses.specs.declared.rails.Rails.{Rails}
use Rattle.netlist.specs.Netlists.{count}
use Rattle.clause_formulas.specs.Formulas.{says, negation, IsFormula, IsModel, HasModelFrom, Grows}
use Rattle.ternary_clauses.specs.Rails.{AreWithin, rails_at}
use Rattle.ternary_clauses.specs.Sweeps.{ReadsOutside, ReadsPlaces}
use Rattle.clause_queries.specs.declared.query.Reply.{Reply}
use Rattle.clause_queries.specs.declared.query.Reply.TheVariants as replies
use Rattle.clause_decision.specs.declared.sweeping.Swept.{Swept}
use Rattle.clause_decision.specs.Cones.{vector_in, IsCone}

-- The copies of a loop's gates stand for their values after so many sweeps, where what is outside of the loop stands for
-- its value at the fixpoint.
pub record IsSwept (net : Parts) (care : CareSet) (marks : List Bool) (loops : Loops) (gates : List ℕ) (s : Swept) (k : ℕ) : Type 0 where
  pub cone : IsCone net care marks s.cone.formula s.cone.rails.items s.cone.inside s.cone.allowed
  pub size : length s.copies.items ≡ length gates
  pub within : All (AreWithin s.cone.formula.variables) s.copies.items
  pub reads : (m : List Bool) (v : List Trit) → IsModel m s.cone.formula → ReadsOutside net loops gates s.cone.rails.items m v →
      ReadsPlaces gates s.copies.items m (sweeps net loops v k)

-- the literals of care are of its variables
pub record IsOnCare (s : Swept) : Type 0 where
  pub inside : s.cone.inside < 2 * s.cone.formula.variables
  pub allowed : s.cone.allowed < 2 * s.cone.formula.variables

-- what one sweep more is said of
pub record IsSweepable (net : Parts) (gates : List ℕ) (s : Swept) : Type 0 where
  pub formula : IsFormula s.cone.formula
  pub rails : length s.cone.rails.items ≡ count net
  pub rails_within : All (AreWithin s.cone.formula.variables) s.cone.rails.items
  pub size : length s.copies.items ≡ length gates
  pub within : All (AreWithin s.cone.formula.variables) s.copies.items
  pub on_care : IsOnCare s

-- copies of these gates, of its variables
pub record AreCopies (gates : List ℕ) (s : Swept) (copies : List Rails) : Type 0 where
  pub size : length copies ≡ length gates
  pub within : All (AreWithin s.cone.formula.variables) copies

-- one sweep more than k: the copies before it stand for the values after k sweeps
pub record IsSweptOn (net : Parts) (care : CareSet) (marks : List Bool) (loops : Loops) (gates : List ℕ) (before : List Rails) (s : Swept) (k : ℕ) : Type 0 where
  pub swept : IsSwept net care marks loops gates s (k + 1)
  pub reads_before : (m : List Bool) (v : List Trit) → IsModel m s.cone.formula → ReadsOutside net loops gates s.cone.rails.items m v →
      ReadsPlaces gates before m (sweeps net loops v k)

-- the literals that say that the copies at these places are unknown
abbrev pub open_literals : List Rails → List ℕ → List ℕ
open_literals copies places = map (λ i. negation (rails_at copies i).known) places

-- the new formula says in addition what a literal says: whether one of these copies is unknown
pub record SaysOpen (old new : Formula) (copies : List Rails) (places : List ℕ) (literal : ℕ) : Type 0 where
  pub grows : Grows old new
  pub within : literal < 2 * new.variables
  pub says_it : (m : List Bool) → IsModel m new → says m literal ≡ list_any (says m) (open_literals copies places)
  pub complete : (m : List Bool) → length m ≡ old.variables → IsModel m old → HasModelFrom new m

-- after k sweeps a cut wire among these gates is unknown at a care vector
pub record IsOpenAt (net : Parts) (loops : Loops) (care : CareSet) (gates : List ℕ) (k : ℕ) (v : List Bool) : Type 0 where
  pub counts : IsCareVector net care v
  pub wire : ℕ
  pub inside : Contains gates wire
  pub is_cut : loops.cut wire ≡ true
  pub unknown : value_in (sweeps net loops (bits v) k) wire ≡ X

-- after so many sweeps all of them are known on care
abbrev pub AreKnownAfter : Parts → Loops → CareSet → List ℕ → ℕ → Type 0
AreKnownAfter net loops care gates k = (v : List Bool) → IsCareVector net care v → (n : ℕ) → Contains gates n → loops.cut n ≡ true →
    value_in (sweeps net loops (bits v) k) n ≢ X

-- the vector of a model is one where one is unknown
abbrev pub TellsOpen : Parts → Loops → CareSet → List ℕ → List Rails → ℕ → Reply → Type 0
TellsOpen net loops care gates rails k (replies.Model m) = IsOpenAt net loops care gates k (vector_in net rails m.items)
TellsOpen net loops care gates rails k replies.NoModel = AreKnownAfter net loops care gates k
TellsOpen net loops care gates rails k replies.Unknown = Unit {0}

-- so many sweeps, and what a question tells of the cut wires after them
pub record IsAsked (net : Parts) (care : CareSet) (marks : List Bool) (loops : Loops) (gates : List ℕ) (s : Swept) (k : ℕ) (reply : Reply) : Type 0 where
  pub swept : IsSwept net care marks loops gates s k
  pub tells : TellsOpen net loops care gates s.cone.rails.items k reply
