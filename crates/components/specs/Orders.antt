-- Topological orders of a graph.
use Rattle.std.specs.Prelude.{◌≡◌, ◌≢◌, ℕ, suc, ◌<◌, List, [], ◌∷◌, Bool, true, false, length, slice_index, slice_index_or, take}
use Rattle.std.specs.List.{Contains}
use Rattle.components.specs.Graphs.{Edge, Reaches}

-- all nodes, each once and after its successors
pub record IsTopologicalOrder (graph : List (List ℕ)) (order : List ℕ) : Type 0 where
  pub size : length order ≡ length graph
  pub within : (i : ℕ) → i < length order → slice_index order i < length graph
  pub each : (a : ℕ) → a < length graph → Contains order a
  pub once : (i j : ℕ) → i < length order → j < length order → slice_index order i ≡ slice_index order j → i ≡ j
  pub after : (i j : ℕ) → i < length order → j < length order → Edge graph (slice_index order i) (slice_index order j) → j < i

-- a walk leads from a node back to it
pub record HasCycle (graph : List (List ℕ)) : Type 0 where
  pub node : ℕ
  pub walk : Reaches graph node node

abbrev pub IsAcyclic : List (List ℕ) → Type 0
IsAcyclic graph = (a : ℕ) → ¬ Reaches graph a a

-- a node that is its own successor
pub record HasSelfEdge (graph : List (List ℕ)) : Type 0 where
  pub node : ℕ
  pub edge : Edge graph node node

-- two places of a list have one number
pub record HasPair (numbers : List ℕ) : Type 0 where
  pub first : ℕ
  pub second : ℕ
  pub first_within : first < length numbers
  pub second_within : second < length numbers
  pub apart : first ≢ second
  pub same : slice_index numbers first ≡ slice_index numbers second

-- no two of them do, and there are as many as may be used
pub record AllDiffer (numbers : List ℕ) (count : ℕ) : Type 0 where
  pub once : (i j : ℕ) → i < length numbers → j < length numbers → slice_index numbers i ≡ slice_index numbers j → i ≡ j
  pub full : ((number : ℕ) → number < count → Contains numbers number) → length numbers ≡ count

-- the places of numbers in a list
pub record HasPlaces (numbers places : List ℕ) (count n : ℕ) : Type 0 where
  pub size : length places ≡ count
  pub at : (k : ℕ) → k < n → slice_index places (slice_index numbers k) ≡ k

abbrev pub marked : List Bool → ℕ
marked [] = 0
marked (true ∷ seen) = suc (marked seen)
marked (false ∷ seen) = marked seen

-- the numbers that the first n places of a list have are seen, and no others, and no two of them are one
pub record HasSeen (numbers : List ℕ) (seen : List Bool) (count n : ℕ) : Type 0 where
  pub size : length seen ≡ count
  pub marks : marked seen ≡ n
  pub once : (i j : ℕ) → i < n → j < n → slice_index numbers i ≡ slice_index numbers j → i ≡ j
  pub seen_at : (k : ℕ) → k < n → slice_index_or seen (slice_index numbers k) false ≡ true
  pub only : (number : ℕ) → slice_index_or seen number false ≡ true → Contains (take n numbers) number
