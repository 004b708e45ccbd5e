-- What is found of two netlists on a care set of the first, and what that shows.
use Rattle.std.specs.Prelude.{◌≡◌, ◌≢◌, ◌<◌, ℕ, Bool, true, false, Some, List, length, slice_index_or}
use Rattle.std.specs.List.{list_any}
use Rattle.netlist.specs.declared.parts.Parts.{Parts}
use Rattle.netlist.specs.Netlists.{signal}
use Rattle.care_sets.specs.Care.{CareSet, IsCareVector}
use Rattle.refusals.specs.Refusals.{Proves}
use Rattle.refusals.specs.declared.refusal.Refusal.TheVariants.{EmptyCare}
use Rattle.netlist.specs.declared.pair.Pair.{Pair}
use Rattle.miters.specs.declared.answer.Answer.{Answer}
use Rattle.miters.specs.declared.answer.Answer.TheVariants.{Equal, Unmatched, First, Second, Output, Latch}
use Rattle.miters.specs.Matching.{unmatched}
use Rattle.miters.specs.Differences.{pair_of, output_pairs, latch_pairs, differs_at}
use Rattle.miters.specs.Rebound.{rebound, found}
use Rattle.miters.specs.Runs.{RunAlike}

-- at a care vector of the first, the pair at this place has other values
pub record IsDifferent (a b : Parts) (care : CareSet) (pairs : List Pair) (v : List Bool) (at : ℕ) : Type 0 where
  pub vector : IsCareVector a care v
  pub there : at < length pairs
  pub differs : differs_at a b v (slice_index_or pairs at (pair_of (signal 0) (signal 0))) ≡ true

-- a latch loads another value, and no output has one
pub record IsDifferentInLatch (a b : Parts) (care : CareSet) (v : List Bool) (at : ℕ) : Type 0 where
  pub outputs_agree : list_any (differs_at a b v) (output_pairs a b) ≡ false
  pub latch : IsDifferent a b care (latch_pairs a b) v at

-- What is found shows itself. Two netlists that are equal run alike. A refusal is shown by its vector; an empty care set
-- alone has none. A vector on which they differ is a care vector.
abbrev pub IsShown : Parts → Parts → CareSet → Answer → Type 0
IsShown a b care Equal = RunAlike a b care
IsShown a b care (Unmatched name) = unmatched a b ≡ Some name
IsShown a b care (First r) = r ≢ EmptyCare → Proves a care r
IsShown a b care (Second r) = r ≢ EmptyCare → Proves b (rebound b care) r
IsShown a b care (Output v at) = IsDifferent a b care (output_pairs a b) v at
IsShown a b care (Latch v at) = IsDifferentInLatch a b care v at

-- what is found of two netlists on a care set of the first does
pub record ShowsItself (a b : Parts) (care : CareSet) : Type 0 where
  pub shown : IsShown a b care (found a b care)
