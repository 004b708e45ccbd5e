-- The roots of a sweep, each at its place.
use Rattle.std.proofs.Common.{◌≡◌, ℕ, ◌<◌, ◌≤◌, List, Option}
use Rattle.std.specs.Option.{option_map}
use Rattle.bdd_store.proofs.Common.{Node, root_in, moved_node}

-- the roots under the first keys are at their places, and the others as they were
pub record AreMovedBelow (places : List ℕ) (old now : List (Option Node)) (key : ℕ) : Type 0 where
  pub done : (k : ℕ) → k < key → root_in now k ≡ option_map (moved_node places) (root_in old k)
  pub rest : (k : ℕ) → key ≤ k → root_in now k ≡ root_in old k
