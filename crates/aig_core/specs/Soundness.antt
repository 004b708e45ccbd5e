-- What holds of each graph that is made.
use Rattle.std.specs.Prelude.{◌≡◌, ◌≢◌, ℕ, ◌+◌, ◌*◌, ◌<◌, ◌≤◌, ◌&&◌, ◌++◌, Bool, false, not, List, length, slice_get, slice_index_or, Some}
use Rattle.aig_core.specs.declared.edge.Edge.{Edge}
use Rattle.aig_core.specs.declared.edge.And.{And}
use Rattle.aig_core.specs.Graphs.{Graph, with_ands, first_and, edge_to, complement, IsEdge, den}

-- An AND of variable n reads edges to earlier variables, the greater first. None is a constant, and the two are neither
-- equal nor complements.
pub record IsSoundAnd (n : ℕ) (and : And) : Type 0 where
  pub earlier : and.greater.0 < 2 * n
  pub greater : and.smaller.0 < and.greater.0
  pub constant : 2 ≤ and.smaller.0
  pub apart : and.greater.0 ≢ (complement and.smaller).0

-- each AND is sound, and no two are of the same pair
pub record IsSound (g : Graph) : Type 0 where
  pub each : (i : ℕ) (and : And) → slice_get g.ands i ≡ Some and → IsSoundAnd (first_and g + i) and
  pub once : (i j : ℕ) (and : And) → slice_get g.ands i ≡ Some and → slice_get g.ands j ≡ Some and → i ≡ j

-- a value for each input and latch
abbrev pub IsVector : Graph → List Bool → Type 0
IsVector g v = length v ≡ g.inputs + g.latches

-- what holds of each graph: the denotation goes by cases on the variable
pub record IsLawful (g : Graph) : Type 0 where
  pub sound : IsSound g
  pub constant : (v : List Bool) → den g (edge_to 0) v ≡ false
  pub column : (i : ℕ) (v : List Bool) → i < length v → IsVector g v → den g (edge_to (1 + i)) v ≡ slice_index_or v i false
  pub conjunction : (i : ℕ) (and : And) (v : List Bool) → slice_get g.ands i ≡ Some and → IsVector g v →
      den g (edge_to (first_and g + i)) v ≡ (den g and.greater v && den g and.smaller v)
  pub complements : (e : Edge) (v : List Bool) → den g (complement e) v ≡ not (den g e v)

-- ANDs were added, and each edge keeps its denotation
pub record Extends (old new : Graph) : Type 0 where
  pub more : List And
  pub is : new ≡ with_ands old (old.ands ++ more)
  pub keeps : (e : Edge) (v : List Bool) → IsEdge old e → IsVector old v → den new e v ≡ den old e v
