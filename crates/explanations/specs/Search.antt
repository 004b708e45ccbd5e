-- What a search in breadth has found, and the cycles through its root.
use Rattle.std.specs.Prelude.{◌≡◌, ◌⊎◌, ◌<◌, ◌≤◌, ◌+◌, ℕ, suc, List, [], ◌∷◌, length, slice_index, slice_index_or, Contains, Some, None}
use Rattle.std.specs.declared.option.Option.{Option}
use Rattle.components.specs.Graphs.{Edge, successors}
use Rattle.explanations.specs.declared.search.SearchStep.{SearchStep}
use Rattle.explanations.specs.Cycles.{IsCycle, last}

-- how the search came to a node, if it did
abbrev pub step_at : List (Option SearchStep) → ℕ → Option SearchStep
step_at steps node = slice_index_or steps node None

abbrev pub depth_of : Option SearchStep → ℕ
depth_of None = 0
depth_of (Some step) = step.depth

pub record IsPlaced (steps : List (Option SearchStep)) (node : ℕ) : Type 0 where
  pub step : SearchStep
  pub is : step_at steps node ≡ Some step

pub record IsNew (steps : List (Option SearchStep)) (node : ℕ) : Type 0 where
  pub within : node < length steps
  pub unplaced : step_at steps node ≡ None

-- the search came to the node by at most so many edges
pub record IsWithin (steps : List (Option SearchStep)) (node depth : ℕ) : Type 0 where
  pub step : SearchStep
  pub is : step_at steps node ≡ Some step
  pub most : step.depth ≤ depth

-- how many nodes the search hasn't come to
abbrev pub unplaced : List (Option SearchStep) → ℕ
unplaced [] = 0
unplaced (None ∷ steps) = suc (unplaced steps)
unplaced (Some step ∷ steps) = unplaced steps

-- a node that was new has this depth, came along a link, and is listed
pub record IsFresh (links : ℕ → ℕ → Type 0) (depth : ℕ) (listed : List ℕ) (node : ℕ) (step : SearchStep) : Type 0 where
  pub level : step.depth ≡ depth
  pub link : links step.from node
  pub found : Contains listed node

-- a search that has come to more nodes at one depth, each along a link, and has listed them behind others
pub record Grown (links : ℕ → ℕ → Type 0) (depth : ℕ) (old new : List (Option SearchStep)) (before after : List ℕ) : Type 0 where
  pub size : length new ≡ length old
  pub keeps : (node : ℕ) (step : SearchStep) → step_at old node ≡ Some step → step_at new node ≡ Some step
  pub fresh : (node : ℕ) (step : SearchStep) → step_at new node ≡ Some step → (step_at old node ≡ Some step) ⊎ IsFresh links depth after node step
  pub stays : (node : ℕ) → Contains before node → Contains after node
  pub origin : (node : ℕ) → Contains after node → Contains before node ⊎ (IsNew old node × IsPlaced new node)
  pub count : unplaced new + length after ≡ unplaced old + length before

-- a link from one node to another
abbrev pub LeadsTo : ℕ → ℕ → ℕ → ℕ → Type 0
LeadsTo from target a b = (a ≡ from) × (b ≡ target)

-- a link from one node to each of these
abbrev pub LeadsFrom : ℕ → List ℕ → ℕ → ℕ → Type 0
LeadsFrom from targets a b = (a ≡ from) × Contains targets b

-- a search that has come from one node to the first n of these
pub record HasVisited (from : ℕ) (targets : List ℕ) (n depth : ℕ) (old new : List (Option SearchStep)) (before after : List ℕ) : Type 0 where
  pub grown : Grown (LeadsFrom from targets) depth old new before after
  pub all : (k : ℕ) → k < n → slice_index targets k < length old → IsPlaced new (slice_index targets k)

-- a link from a node of the level to each of its successors
abbrev pub LeadsFromLevel : List (List ℕ) → List ℕ → ℕ → ℕ → Type 0
LeadsFromLevel graph level a b = Contains level a × Contains (successors graph a) b

-- a search that has come to all successors of the first n nodes of a level, which are listed as the next level
pub record IsNextLevel (graph : List (List ℕ)) (level : List ℕ) (n depth : ℕ) (old new : List (Option SearchStep)) (next : List ℕ) : Type 0 where
  pub grown : Grown (LeadsFromLevel graph level) depth old new [] next
  pub all : (k b : ℕ) → k < n → Contains (successors graph (slice_index level k)) b → b < length old → IsPlaced new b

-- the search came to a node along an edge from one that is one edge nearer to the root
pub record CameBy (graph : List (List ℕ)) (steps : List (Option SearchStep)) (node : ℕ) (step : SearchStep) : Type 0 where
  pub before : SearchStep
  pub is : step_at steps step.from ≡ Some before
  pub deeper : step.depth ≡ before.depth + 1
  pub edge : Edge graph step.from node

-- or the node is the root
abbrev pub Came : List (List ℕ) → ℕ → List (Option SearchStep) → ℕ → SearchStep → Type 0
Came graph root steps node step = ((step.depth ≡ 0) × (node ≡ root)) ⊎ CameBy graph steps node step

-- a search from a root that goes on from each node less deep than the limit
pub record IsSearch (graph : List (List ℕ)) (root limit : ℕ) (steps : List (Option SearchStep)) : Type 0 where
  pub size : length steps ≡ length graph
  pub rooted : IsWithin steps root 0
  pub came : (node : ℕ) (step : SearchStep) → step_at steps node ≡ Some step → Came graph root steps node step
  pub shallow : (node : ℕ) (step : SearchStep) → step_at steps node ≡ Some step → step.depth < length graph
  pub most : (node : ℕ) (step : SearchStep) → step_at steps node ≡ Some step → step.depth ≤ limit
  pub closed : (a b : ℕ) (step : SearchStep) → step_at steps a ≡ Some step → step.depth < limit → Edge graph a b → IsWithin steps b (step.depth + 1)

-- the same while it is underway: all nodes up to a depth are found, and those at that depth are the level
pub record IsSearching (graph : List (List ℕ)) (root depth : ℕ) (level : List ℕ) (steps : List (Option SearchStep)) : Type 0 where
  pub size : length steps ≡ length graph
  pub rooted : IsWithin steps root 0
  pub came : (node : ℕ) (step : SearchStep) → step_at steps node ≡ Some step → Came graph root steps node step
  pub shallow : (node : ℕ) (step : SearchStep) → step_at steps node ≡ Some step → step.depth ≤ depth
  pub closed : (a b : ℕ) (step : SearchStep) → step_at steps a ≡ Some step → step.depth < depth → Edge graph a b → IsWithin steps b (step.depth + 1)
  pub frontier : (node : ℕ) (step : SearchStep) → step_at steps node ≡ Some step → step.depth ≡ depth → Contains level node
  pub at : (node : ℕ) → Contains level node → (step : SearchStep) × (step_at steps node ≡ Some step) × (step.depth ≡ depth)
  pub count : depth + unplaced steps < length graph

-- each step that is no first one has one before it
pub record Before (steps : List (Option SearchStep)) (step : SearchStep) : Type 0 where
  pub before : SearchStep
  pub is : step_at steps step.from ≡ Some before
  pub deeper : step.depth ≡ before.depth + 1

abbrev pub IsRooted : List (Option SearchStep) → Type 0
IsRooted steps = (node : ℕ) (step : SearchStep) → step_at steps node ≡ Some step → 0 < step.depth → Before steps step

pub record ComesFrom (steps : List (Option SearchStep)) (node from : ℕ) : Type 0 where
  pub step : SearchStep
  pub is : step_at steps node ≡ Some step
  pub source : step.from ≡ from
  pub deep : 0 < step.depth

abbrev pub IsFirst : List (Option SearchStep) → ℕ → Type 0
IsFirst steps node = (step : SearchStep) → step_at steps node ≡ Some step → step.depth ≡ 0

-- from a node back to one that the search did not come to from another
pub record IsWayBack (steps : List (Option SearchStep)) (node : ℕ) (way : List ℕ) : Type 0 where
  pub some : 0 < length way
  pub starts : slice_index way 0 ≡ node
  pub links : (k : ℕ) → k + 1 < length way → ComesFrom steps (slice_index way k) (slice_index way (k + 1))
  pub ends : IsFirst steps (last way)

-- ---- cycles through the root

-- an edge leads back to the root from a node that the search came to
pub record Closes (graph : List (List ℕ)) (root : ℕ) (steps : List (Option SearchStep)) (node : ℕ) (step : SearchStep) : Type 0 where
  pub is : step_at steps node ≡ Some step
  pub edge : Contains (successors graph node) root

pub record ClosesFirst (graph : List (List ℕ)) (root : ℕ) (steps : List (Option SearchStep)) (n : ℕ) (best : SearchStep) : Type 0 where
  pub step : SearchStep
  pub closes : Closes graph root steps best.from step
  pub depth : step.depth ≡ best.depth
  pub least : (node : ℕ) (other : SearchStep) → node < n → Closes graph root steps node other → best.depth ≤ other.depth

-- among the first n nodes: the one nearest to the root from which an edge leads back to it
abbrev pub IsClosing : List (List ℕ) → ℕ → List (Option SearchStep) → ℕ → Option SearchStep → Type 0
IsClosing graph root steps n (Some best) = ClosesFirst graph root steps n best
IsClosing graph root steps n None = (node : ℕ) (other : SearchStep) → node < n → ¬ Closes graph root steps node other

pub record IsShortestThrough (graph : List (List ℕ)) (root limit : ℕ) (nodes : List ℕ) : Type 0 where
  pub cycle : IsCycle graph nodes
  pub ends : last nodes ≡ root
  pub most : length nodes ≤ limit + 1
  pub least : (other : List ℕ) → IsCycle graph other → last other ≡ root → length nodes ≤ length other

-- each cycle through the root has more nodes than the limit lets a search find
pub record IsTooLong (graph : List (List ℕ)) (limit : ℕ) (nodes : List ℕ) : Type 0 where
  pub longer : limit + 1 < length nodes
  pub limited : limit < length graph

abbrev pub IsThrough : List (List ℕ) → ℕ → ℕ → Option (List ℕ) → Type 0
IsThrough graph root limit (Some nodes) = IsShortestThrough graph root limit nodes
IsThrough graph root limit None = (other : List ℕ) → IsCycle graph other → last other ≡ root → IsTooLong graph limit other

-- the best of all cycles whose last node is one of the first n and was reached
pub record IsBestOf (graph : List (List ℕ)) (reached : List (Option SearchStep)) (n : ℕ) (nodes : List ℕ) : Type 0 where
  pub cycle : IsCycle graph nodes
  pub placed : IsPlaced reached (last nodes)
  pub size : length nodes ≤ 4294967296
  pub least : (other : List ℕ) → IsCycle graph other → last other < n → IsPlaced reached (last other) → length nodes ≤ length other

abbrev pub IsBest : List (List ℕ) → List (Option SearchStep) → ℕ → Option (List ℕ) → Type 0
IsBest graph reached n (Some nodes) = IsBestOf graph reached n nodes
IsBest graph reached n None = (other : List ℕ) → IsCycle graph other → last other < n → ¬ IsPlaced reached (last other)

-- how deep a search must go for a cycle with fewer nodes than the best one
abbrev pub IsLimitBelow : ℕ → Option (List ℕ) → Option ℕ → Type 0
IsLimitBelow count None None = ⊥
IsLimitBelow count None (Some limit) = limit ≡ count
IsLimitBelow count (Some nodes) None = length nodes < 2
IsLimitBelow count (Some nodes) (Some limit) = length nodes ≤ 4294967296 → limit + 2 ≡ length nodes

-- a node of the list, and each of the first n has at least its depth
pub record IsNearestOf (reached : List (Option SearchStep)) (nodes : List ℕ) (n node : ℕ) : Type 0 where
  pub among : Contains nodes node
  pub least : (k : ℕ) (far : SearchStep) → k < n → step_at reached (slice_index nodes k) ≡ Some far → depth_of (step_at reached node) ≤ far.depth

abbrev pub IsDeeper : Option SearchStep → Option SearchStep → Type 0
IsDeeper (Some first) (Some second) = second.depth < first.depth
IsDeeper (Some first) None = ⊥
IsDeeper None second = ⊥

-- ---- on the way back

-- a way so far, from a node back to where it stands
pub record IsGoingBack (steps : List (Option SearchStep)) (node at : ℕ) (way : List ℕ) : Type 0 where
  pub some : 0 < length way
  pub starts : slice_index way 0 ≡ node
  pub links : (k : ℕ) → k + 1 < length way → ComesFrom steps (slice_index way k) (slice_index way (k + 1))
  pub stands : last way ≡ at

-- nothing is found yet, or only deeper
abbrev pub IsNearer : Option SearchStep → ℕ → Type 0
IsNearer None depth = Unit {0}
IsNearer (Some step) depth = depth < step.depth
