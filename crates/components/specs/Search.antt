-- The state of the search for components, and what holds of it between two steps.
use Rattle.std.specs.Prelude.{◌≡◌, ◌⊎◌, ℕ, ◌+◌, ◌<◌, ◌≤◌, ◌-◌, ◌≢◌, List, [], ◌∷◌, ◌++◌, length, slice_index, slice_index_or, slice_set, take, drop, replicate}
use Rattle.std.specs.List.{All, AllPairs, Contains}
use Rattle.components.specs.declared.search.Mark.{Mark}
use Rattle.components.specs.declared.search.Mark.TheVariants.{New, Open, Closed}
use Rattle.components.specs.declared.search.Group.{Group}
use Rattle.components.specs.declared.search.Search.{Search}
use Rattle.components.specs.Graphs.{successors, Edge, Reaches}

-- what contracts see of a search
pub record State : Type 0 where
  pub marks : List Mark
  pub path : List ℕ
  pub waiting : List ℕ
  pub groups : List Group
  pub count : ℕ

abbrev pub state_of : Search → State
state_of search = record {
  marks = search.marks.items;
  path = search.path.items;
  waiting = search.waiting.items;
  groups = search.groups.items;
  count = search.count;
}

abbrev pub mark_of : List Mark → ℕ → Mark
mark_of marks node = slice_index_or marks node New

-- the sum of a cost of the successors, over the nodes that are new
abbrev pub new_cost : (List ℕ → ℕ) → List (List ℕ) → List Mark → ℕ
new_cost cost [] marks = 0
new_cost cost (edges ∷ graph) [] = 0
new_cost cost (edges ∷ graph) (New ∷ marks) = cost edges + new_cost cost graph marks
new_cost cost (edges ∷ graph) (Open place ∷ marks) = new_cost cost graph marks
new_cost cost (edges ∷ graph) (Closed component ∷ marks) = new_cost cost graph marks

-- a group that begins by place p begins by place q: the node at q is in the group of the one at p, or in a later one
abbrev pub IsNoEarlier : ℕ → ℕ → Group → Type 0
IsNoEarlier p q group = group.nodes ≤ p → group.nodes ≤ q

-- the same of a place and a waiting edge, and of a waiting edge and a place
abbrev pub WaitsNoEarlier : ℕ → ℕ → Group → Type 0
WaitsNoEarlier p i group = group.nodes ≤ p → group.edges ≤ i

abbrev pub StandsNoEarlier : ℕ → ℕ → Group → Type 0
StandsNoEarlier i p group = group.edges ≤ i → group.nodes ≤ p

-- the groups begin at rising places
abbrev pub Begins : Group → Group → Type 0
Begins one two = (one.nodes < two.nodes) × (one.edges ≤ two.edges)

-- a walk of any length, or none
abbrev pub Leads : List (List ℕ) → ℕ → ℕ → Type 0
Leads graph a b = (a ≡ b) ⊎ Reaches graph a b

-- the node is closed, in this component or an earlier one
pub record IsClosedBy (marks : List Mark) (node component : ℕ) : Type 0 where
  pub number : ℕ
  pub is : mark_of marks node ≡ Closed number
  pub below : number ≤ component

pub record HasClosed (marks : List Mark) (component : ℕ) : Type 0 where
  pub node : ℕ
  pub is : mark_of marks node ≡ Closed component

-- a waiting edge leaves a node of its group
pub record Leaves (graph : List (List ℕ)) (s : State) (i : ℕ) : Type 0 where
  pub place : ℕ
  pub on_path : place < length s.path
  pub listed : Contains (successors graph (slice_index s.path place)) (slice_index s.waiting i)
  pub after : All (StandsNoEarlier i place) s.groups
  pub before : All (WaitsNoEarlier place i) s.groups

-- What has become of an edge from the path's node at a place to node b. Or b is on the path, in the group of
-- that place or a later one. Or the edge waits, in that group or a later one.
pub data IsFollowed (s : State) (place b : ℕ) : Type 0 where
  closed : (component : ℕ) → mark_of s.marks b ≡ Closed component → IsFollowed s place b
  on_path : (later : ℕ) → mark_of s.marks b ≡ Open later →
      All (IsNoEarlier place later) s.groups → IsFollowed s place b
  waits : (i : ℕ) → i < length s.waiting → slice_index s.waiting i ≡ b →
      All (WaitsNoEarlier place i) s.groups → IsFollowed s place b

-- The invariant of the search, but for the edges of the path.
pub record IsSound (graph : List (List ℕ)) (s : State) : Type 0 where
  pub size : length s.marks ≡ length graph
  pub room : new_cost (λ _. 1) graph s.marks + length s.path + s.count ≤ length graph
  -- what is closed: numbers in use, edges that stay within, and components that are strongly connected
  pub closed_below : (a component : ℕ) → mark_of s.marks a ≡ Closed component → component < s.count
  pub closed_used : (component : ℕ) → component < s.count → HasClosed s.marks component
  pub closed_edges : (a b component : ℕ) → mark_of s.marks a ≡ Closed component → Edge graph a b →
      IsClosedBy s.marks b component
  pub closed_leads : (a b component : ℕ) → mark_of s.marks a ≡ Closed component →
      mark_of s.marks b ≡ Closed component → Leads graph a b
  -- the path: open nodes know their places, and each node leads to the later ones
  pub places : (place : ℕ) → place < length s.path → mark_of s.marks (slice_index s.path place) ≡ Open place
  pub open_within : (a place : ℕ) → mark_of s.marks a ≡ Open place → place < length s.path
  pub open_is : (a place : ℕ) → mark_of s.marks a ≡ Open place → slice_index s.path place ≡ a
  pub forward : (p q : ℕ) → p ≤ q → q < length s.path → Leads graph (slice_index s.path p) (slice_index s.path q)
  -- within its group also to the earlier ones
  pub backward : (p q : ℕ) → p ≤ q → q < length s.path → All (IsNoEarlier q p) s.groups →
      Leads graph (slice_index s.path q) (slice_index s.path p)
  -- where the groups begin
  pub group_nodes : All (λ group. group.nodes < length s.path) s.groups
  pub group_edges : All (λ group. group.edges ≤ length s.waiting) s.groups
  pub rising : AllPairs Begins s.groups
  pub bottom : (d : Group) → 0 < length s.path → (0 < length s.groups) × (slice_index_or s.groups 0 d).nodes ≡ 0
  pub leaves : (i : ℕ) → i < length s.waiting → Leaves graph s i

-- every edge of the path is followed, but for those to node b that is in debt
abbrev pub FollowsBut : List (List ℕ) → State → (ℕ → Type 0) → Type 0
FollowsBut graph s debt = (place b : ℕ) → place < length s.path → Edge graph (slice_index s.path place) b →
    IsFollowed s place b ⊎ debt b

abbrev pub Follows : List (List ℕ) → State → Type 0
Follows graph s = (place b : ℕ) → place < length s.path → Edge graph (slice_index s.path place) b → IsFollowed s place b

pub record Searching (graph : List (List ℕ)) (s : State) : Type 0 where
  pub sound : IsSound graph s
  pub follows : Follows graph s

-- an edge leaves the last group for a number that may be a node's
pub record LeavesTop (graph : List (List ℕ)) (s : State) (target : ℕ) : Type 0 where
  pub place : ℕ
  pub on_path : place < length s.path
  pub listed : Contains (successors graph (slice_index s.path place)) target
  pub top : All (λ group. group.nodes ≤ place) s.groups

-- between two steps, but for an edge that was taken off the waiting ones
pub record Following (graph : List (List ℕ)) (s : State) (target : ℕ) : Type 0 where
  pub sound : IsSound graph s
  pub follows : FollowsBut graph s (λ b. b ≡ target)
  pub edge : LeavesTop graph s target

-- a node is added to the path as a group of its own
abbrev pub opened : List (List ℕ) → ℕ → State → State
opened graph node s = record {
  marks = slice_set s.marks node (Open (length s.path));
  path = s.path ++ node ∷ [];
  waiting = s.waiting ++ successors graph node;
  groups = s.groups ++ (record { nodes = length s.path; edges = length s.waiting }) ∷ [];
  count = s.count;
}

-- groups at the end, which begin past a place, are cut off
pub record IsCut (old new : List Group) (place : ℕ) : Type 0 where
  pub gone : List Group
  pub is : old ≡ new ++ gone
  pub past : All (λ group. place < group.nodes) gone

-- all groups that begin past a place are merged into the one before them
pub record IsMerged (old new : List Group) (place : ℕ) : Type 0 where
  pub cut : IsCut old new place
  pub last : (d : Group) (k : ℕ) → k + 1 ≡ length new → (slice_index_or new k d).nodes ≤ place

-- these nodes are closed with this number, and others keep their marks
pub record IsMarked (old new : List Mark) (nodes : List ℕ) (number : ℕ) : Type 0 where
  pub size : length new ≡ length old
  pub inside : (k : ℕ) → k < length nodes → mark_of new (slice_index nodes k) ≡ Closed number
  pub others : (a : ℕ) → (mark_of new a ≡ mark_of old a) ⊎ (Contains nodes a × mark_of new a ≡ Closed number)

-- the last group is closed as a component
pub record IsClosedLast (group : Group) (old new : State) : Type 0 where
  pub marks : IsMarked old.marks new.marks (drop group.nodes old.path) old.count
  pub path : new.path ≡ take group.nodes old.path
  pub waiting : new.waiting ≡ old.waiting
  pub groups : new.groups ≡ take (length old.groups - 1) old.groups
  pub count : new.count ≡ old.count + 1

-- an upper bound of the steps that are left
abbrev pub steps_left : List (List ℕ) → State → ℕ
steps_left graph s = new_cost (λ edges. length edges + 2) graph s.marks + length s.waiting + length s.groups

-- no node becomes new again
abbrev pub StaysSeen : State → State → Type 0
StaysSeen old new = (a : ℕ) → mark_of new.marks a ≡ New → mark_of old.marks a ≡ New

-- what steps keep
pub record Advances (graph : List (List ℕ)) (old new : State) : Type 0 where
  pub searching : Searching graph new
  pub left : steps_left graph new ≤ steps_left graph old
  pub seen : StaysSeen old new

-- the search at its start
abbrev pub started : ℕ → State
started nodes = record { marks = replicate nodes New; path = []; waiting = []; groups = []; count = 0 }

-- nothing is on the path
pub record Rests (graph : List (List ℕ)) (s : State) : Type 0 where
  pub searching : Searching graph s
  pub path : s.path ≡ []

-- a new node has been closed, with all that it reaches
pub record Explores (graph : List (List ℕ)) (old new : State) (root : ℕ) : Type 0 where
  pub rests : Rests graph new
  pub seen : StaysSeen old new
  pub visited : mark_of new.marks root ≢ New

-- nodes below a bound have been closed
pub record HasExplored (graph : List (List ℕ)) (s : State) (nodes : ℕ) : Type 0 where
  pub rests : Rests graph s
  pub seen : (a : ℕ) → a < nodes → mark_of s.marks a ≢ New

-- the component of a closed node
abbrev pub component_of : Mark → ℕ
component_of New = 0
component_of (Open place) = 0
component_of (Closed component) = component
