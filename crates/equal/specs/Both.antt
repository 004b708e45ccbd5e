-- The functions that the decisions of two netlists work with, on vectors of the first one.
use Rattle.std.specs.Prelude.{◌≡◌, ℕ, Bool, None, List, [], length}
use Rattle.dual_rail.specs.WorkingLists.{IsWide}
use Rattle.netlist.specs.declared.parts.Parts.{Parts}
use Rattle.netlist.specs.Netlists.{IsNetlist, columns}
use Rattle.fixpoint.specs.Orders.{laid, order}
use Rattle.care_sets.specs.Care.{CareSet}
use Rattle.diagram_decision.specs.Enough.{IsOfDecision}
use Rattle.equal.specs.Comparisons.{IsLaidBy}
use Rattle.miters.specs.Differences.{by_name}
use Rattle.miters.specs.Joined.{joined}
use Rattle.miters.specs.Matching.{unmatched}

-- a function that the first one's decision works with, or one of the second's on the vector by name
pub data IsOfBoth (a : Parts) (care_a : CareSet) (b : Parts) (care_b : CareSet) (g : List Bool → Bool) : Type 0 where
  OfFirst : IsOfDecision a care_a g → IsOfBoth a care_a b care_b g
  OfSecond : (f : List Bool → Bool) → IsOfDecision b care_b f → ((v : List Bool) → length v ≡ columns a → g v ≡ f (by_name a b v)) → IsOfBoth a care_a b care_b g

-- such a function, with the first one's columns laid on the variables of diagrams by its order
pub record IsLaidForBoth (a : Parts) (care_a : CareSet) (b : Parts) (care_b : CareSet) (g : List Bool → Bool) : Type 0 where
  pub of : List Bool → Bool
  pub is : IsOfBoth a care_a b care_b of
  pub same : (v : List Bool) → length v ≡ columns a → g (laid a v) ≡ of v

-- what is wide for the functions of both decisions is wide for the comparison
abbrev pub BothAreWide : Type 0
BothAreWide = (a b : Parts) (care_a care_b : CareSet) → IsNetlist a → IsNetlist b → unmatched a b ≡ None →
    (w : ℕ) → IsWide (columns a) (IsLaidForBoth a care_a b care_b) w → IsWide (columns a) (IsLaidBy (order a) (joined a b []) care_a) w
