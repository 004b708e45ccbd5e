-- Walks in a directed graph, which is the list of its nodes' successors.
use Rattle.std.specs.Prelude.{◌≡◌, ◌⊎◌, ℕ, ◌<◌, ◌≤◌, List, [], ◌∷◌, length, slice_index, slice_index_or}
use Rattle.std.specs.List.{Contains}
use Rattle.components.specs.declared.components.Components.{Components}

-- a node's successors
abbrev pub successors : List (List ℕ) → ℕ → List ℕ
successors graph a = slice_index_or graph a []

-- an edge leads from node a to node b
pub record Edge (graph : List (List ℕ)) (a b : ℕ) : Type 0 where
  pub source : a < length graph
  pub target : b < length graph
  pub listed : Contains (successors graph a) b

-- a walk of one or more edges from a to b, with these nodes in between
abbrev pub Walk : List (List ℕ) → ℕ → List ℕ → ℕ → Type 0
Walk graph a [] b = Edge graph a b
Walk graph a (x ∷ via) b = Edge graph a x × Walk graph x via b

pub record Reaches (graph : List (List ℕ)) (a b : ℕ) : Type 0 where
  pub via : List ℕ
  pub walk : Walk graph a via b

-- two nodes are strongly connected: each reaches the other, or they are one
abbrev pub AreStronglyConnected : List (List ℕ) → ℕ → ℕ → Type 0
AreStronglyConnected graph a b = (a ≡ b) ⊎ (Reaches graph a b × Reaches graph b a)

-- some node has this component
pub record HasNode (home : List ℕ) (component : ℕ) : Type 0 where
  pub node : ℕ
  pub within : node < length home
  pub is : slice_index home node ≡ component

-- the strongly connected components of a graph in an order in which no edge leads to a later one
pub record AreComponentsOf (graph : List (List ℕ)) (found : Components) : Type 0 where
  -- each node has one of the components, and each component has a node
  pub nodes : length found.home ≡ length graph
  pub within : (a : ℕ) → a < length graph → slice_index found.home a < found.count
  pub used : (component : ℕ) → component < found.count → HasNode found.home component
  -- nodes have one component only where they are strongly connected, and everywhere there
  pub connected : (a b : ℕ) → a < length graph → b < length graph →
      slice_index found.home a ≡ slice_index found.home b → AreStronglyConnected graph a b
  pub same : (a b : ℕ) → AreStronglyConnected graph a b → slice_index found.home a ≡ slice_index found.home b
  pub order : (a b : ℕ) → Edge graph a b → slice_index found.home b ≤ slice_index found.home a
