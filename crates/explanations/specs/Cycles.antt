-- Cycles of a directed graph, and ways between a cycle and a node that reaches it. Their nodes are listed against the
-- edges: an edge leads from each node to the one before it.
use Rattle.std.specs.Prelude.{◌≡◌, ◌≢◌, ◌<◌, ◌≤◌, ◌+◌, ◌-◌, ℕ, List, ◌∷◌, length, slice_index, All, Contains}
use Rattle.components.specs.Graphs.{Edge}
use Rattle.explanations.specs.declared.shortest.ShortCycle.{ShortCycle}

-- an edge leads from each node of the list to the one before it
abbrev pub IsTrail : List (List ℕ) → List ℕ → Type 0
IsTrail graph nodes = (k : ℕ) → k + 1 < length nodes → Edge graph (slice_index nodes (k + 1)) (slice_index nodes k)

abbrev pub last : List ℕ → ℕ
last nodes = slice_index nodes (length nodes - 1)

-- and one from the first node to the last
pub record IsCycle (graph : List (List ℕ)) (nodes : List ℕ) : Type 0 where
  pub some : 0 < length nodes
  pub trail : IsTrail graph nodes
  pub closes : Edge graph (slice_index nodes 0) (last nodes)

-- behind a node of the cycle these nodes lead to the goal, the last of them. Without any the goal is on the cycle.
pub record IsWay (graph : List (List ℕ)) (cycle way : List ℕ) (goal : ℕ) : Type 0 where
  pub start : ℕ
  pub on : Contains cycle start
  pub trail : IsTrail graph (start ∷ way)
  pub ends : last (start ∷ way) ≡ goal

-- no node stands twice in the list
abbrev pub HasNoneTwice : List ℕ → Type 0
HasNoneTwice nodes = (i j : ℕ) → i < j → j < length nodes → slice_index nodes i ≢ slice_index nodes j

-- a cycle that the goal reaches, with the shortest way off it, and no other cycle has fewer nodes
pub record IsShortest (graph : List (List ℕ)) (goal : ℕ) (found : ShortCycle) : Type 0 where
  pub cycle : IsCycle graph found.cycle
  pub way : IsWay graph found.cycle found.way goal
  pub off : All (λ node. ¬ Contains found.cycle node) found.way
  pub once : HasNoneTwice found.way
  pub shortest : (way : List ℕ) → IsWay graph found.cycle way goal → length found.way ≤ length way
  pub fewest : (cycle way : List ℕ) → IsCycle graph cycle → IsWay graph cycle way goal → length found.cycle ≤ length cycle

-- the goal reaches no cycle
abbrev pub ReachesNone : List (List ℕ) → ℕ → Type 0
ReachesNone graph goal = (cycle way : List ℕ) → IsCycle graph cycle → ¬ IsWay graph cycle way goal
