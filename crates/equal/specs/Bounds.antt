-- How many nodes are enough for a comparison, and what its node limit rests on.
use Rattle.std.specs.Prelude.{◌≡◌, ◌<◌, ◌≤◌, ◌+◌, ◌*◌, ◌⊎◌, ℕ, None, length}
use Rattle.netlist.specs.Netlists.{columns}
use Rattle.bdd_store.specs.Arena.{Arena}
use Rattle.dual_rail.specs.WorkingLists.{IsWide}
use Rattle.netlist.specs.declared.parts.Parts.{Parts}
use Rattle.fixpoint.specs.Working.{effort, HasLargeCover}
use Rattle.care_sets.specs.Care.{CareSet}
use Rattle.diagram_decision.specs.Causes.{HasModelOver}
use Rattle.diagram_decision.specs.Enough.{IsLaid, in_all, enough}
use Rattle.miters.specs.Matching.{unmatched}
use Rattle.miters.specs.Rebound.{rebound}
use Rattle.equal.specs.Both.{IsLaidForBoth}

-- a number of both netlists and their care models together
abbrev pub in_both : (Parts → ℕ) → Parts → CareSet → Parts → CareSet → ℕ
in_both f a care_a b care_b = in_all f a care_a + in_all f b care_b

-- So many nodes are enough: for the first decision, where v is wide for it, for the second, where w is, and for the
-- comparison, where u is wide for the functions of both decisions, laid by the first one's order.
abbrev pub enough_for_both : Parts → CareSet → Parts → CareSet → ℕ → ℕ → ℕ → ℕ
enough_for_both a care_a b care_b v w u =
    enough a care_a v + enough b care_b w
    + 16 * u * (in_both (λ net. length net.gates) a care_a b care_b + 2) * (in_both effort a care_a b care_b + columns a + 4)
    + 8 * u * (length a.outputs + length a.latches)

-- the limit is below that
pub record IsBelowEnoughForBoth (a : Parts) (care_a : CareSet) (b : Parts) (care_b : CareSet) (limit : ℕ) : Type 0 where
  pub below : (v w u : ℕ) → IsWide (columns a) (IsLaid a care_a) v → IsWide (columns b) (IsLaid b care_b) w →
      IsWide (columns a) (IsLaidForBoth a care_a b care_b) u → limit < enough_for_both a care_a b care_b v w u

-- What a node limit rests on: the diagrams hold as many nodes as they may, or a cover of one of the netlists or of a care
-- model has more.
pub record IsOutOfNodesForBoth (d : Arena) (a : Parts) (care_a : CareSet) (b : Parts) (limit : ℕ) : Type 0 where
  pub most : d.limit ≡ limit
  pub cause : (length d.entries ≡ limit) ⊎ (HasLargeCover a limit ⊎ (HasLargeCover b limit ⊎ HasModelOver care_a limit))

-- What a node limit of a comparison shows: all names match, the limit is below what is enough for both decisions and the
-- comparison, and the diagrams hold as many nodes, or a cover has more.
pub record IsLimited (d : Arena) (a b : Parts) (care : CareSet) (limit : ℕ) : Type 0 where
  pub matched : unmatched a b ≡ None
  pub cause : IsOutOfNodesForBoth d a care b limit
  pub below : IsBelowEnoughForBoth a care b (rebound b care) limit

-- The limit is at least what is enough.
pub record IsEnoughForBoth (a b : Parts) (care : CareSet) (limit : ℕ) : Type 0 where
  pub first : ℕ
  pub second : ℕ
  pub both : ℕ
  pub first_wide : IsWide (columns a) (IsLaid a care) first
  pub second_wide : IsWide (columns b) (IsLaid b (rebound b care)) second
  pub both_wide : IsWide (columns a) (IsLaidForBoth a care b (rebound b care)) both
  pub within : enough_for_both a care b (rebound b care) first second both ≤ limit
