-- How many sweeps a loop needs, counted by vectors that need many.
use Rattle.std.specs.Prelude.{◌<◌, ℕ, Bool, List, Contains}
use Rattle.cyc_base.specs.Values.{bits}
use Rattle.netlist.specs.declared.parts.Parts.{Parts}
use Rattle.loops.specs.Cuts.{Loops}
use Rattle.loops.specs.Sweeps.{CutsAreFixed}
use Rattle.care_sets.specs.Care.{CareSet, IsCareVector}
use Rattle.refusals.specs.Acceptance.{SomeCareVector}
use Rattle.ternary_clauses.specs.declared.rails.Rails.{Rails}
use Rattle.clause_queries.specs.declared.query.Reply.{Reply}
use Rattle.clause_queries.specs.declared.query.Reply.TheVariants as replies
use Rattle.clause_decision.specs.declared.counting.Needed.{Needed}
use Rattle.clause_decision.specs.declared.counting.Needed.TheVariants as needs
use Rattle.clause_decision.specs.declared.counting.Sign.{Sign}
use Rattle.clause_decision.specs.declared.counting.Sign.TheVariants as signs
use Rattle.clause_decision.specs.declared.sweeping.Swept.{Swept}
use Rattle.clause_decision.specs.Changes.{AreFedKnown}
use Rattle.clause_decision.specs.Cones.{vector_in}
use Rattle.clause_decision.specs.Scopes.{AreKnownOnCare}
use Rattle.loop_simulation.specs.Climbing.{NeedAtLeast}
use Rattle.loop_simulation.specs.Sweeping.{IsLeastCount}
use Rattle.clause_decision.specs.Sweepings.{IsSwept}

-- where a sign can be asked for
abbrev pub Serves : Sign → Parts → CareSet → List ℕ → Type 0
Serves signs.Open net care gates = SomeCareVector net care × AreKnownOnCare net care
Serves signs.Changing net care gates = AreFedKnown net care gates

-- fewer sweeps than this are too few
abbrev pub first_number : Sign → ℕ
first_number signs.Open = 1
first_number signs.Changing = 0

-- k sweeps of the loop of these gates are too few at a care vector
pub record AreTooFewAt (net : Parts) (loops : Loops) (care : CareSet) (gates : List ℕ) (k : ℕ) (v : List Bool) : Type 0 where
  pub counts : IsCareVector net care v
  pub open_cuts : (a : ℕ) → Contains gates a → ¬ CutsAreFixed net loops (bits v) a k

-- they are enough on care
abbrev pub AreEnough : Parts → Loops → CareSet → List ℕ → ℕ → Type 0
AreEnough net loops care gates k = (a : ℕ) → Contains gates a → (v : List Bool) → IsCareVector net care v → CutsAreFixed net loops (bits v) a k

-- the vector of a model is one where they are too few
abbrev pub TellsTooFew : Parts → Loops → CareSet → List ℕ → List Rails → ℕ → Reply → Type 0
TellsTooFew net loops care gates rails k (replies.Model m) = AreTooFewAt net loops care gates k (vector_in net rails m.items)
TellsTooFew net loops care gates rails k replies.NoModel = AreEnough net loops care gates k
TellsTooFew net loops care gates rails k replies.Unknown = Unit {0}

-- so many sweeps were made, and what a question tells of k
pub record IsAskedAfter (net : Parts) (care : CareSet) (marks : List Bool) (loops : Loops) (gates : List ℕ) (s : Swept) (made k : ℕ) (reply : Reply) : Type 0 where
  pub swept : IsSwept net care marks loops gates s made
  pub tells : TellsTooFew net loops care gates s.cone.rails.items k reply

abbrev pub TellsNeeded : Parts → Loops → CareSet → List ℕ → ℕ → Needed → Type 0
TellsNeeded net loops care gates k needs.These = (a : ℕ) → Contains gates a → IsLeastCount net loops care a k
TellsNeeded net loops care gates k (needs.AtLeast m) = (k < m) × NeedAtLeast net loops care gates m
TellsNeeded net loops care gates k needs.Unknown = Unit {0}

-- so many sweeps were made, and what is known of k
pub record IsCountedTo (net : Parts) (care : CareSet) (marks : List Bool) (loops : Loops) (gates : List ℕ) (s : Swept) (made k : ℕ) (found : Needed) : Type 0 where
  pub swept : IsSwept net care marks loops gates s made
  pub tells : TellsNeeded net loops care gates k found
