-- Ordered and reduced diagrams, and what follows for their functions.
use Rattle.std.specs.Prelude.{◌≡◌, ◌≢◌, ◌↔◌, ℕ, ◌<◌, ◌≤◌, Bool, false, List, length, drop, Option, Some, None, slice_get}
use Rattle.std.specs.List.{slice_index_or}
use Rattle.bdd_store.specs.declared.node.Node.{Node}
use Rattle.bdd_store.specs.declared.node.Entry.{Entry}
use Rattle.bdd_store.specs.Arena.{Arena, root_at, index, is_marked, constant, den, top_at, top_of, IsNodeOf, IsBranching}

-- the entry at position p is one that a sound store may have there
pub record IsSoundEntry (vars : ℕ) (es : List Entry) (p : ℕ) (e : Entry) : Type 0 where
  pub lo_earlier : index e.lo ≤ p
  pub hi_earlier : index e.hi ≤ p
  pub apart : e.lo.number ≢ e.hi.number
  pub unmarked : is_marked e.hi ≡ false
  pub within : e.var < vars
  pub lo_below : e.var < top_at vars es (index e.lo)
  pub hi_below : e.var < top_at vars es (index e.hi)

-- variables rise along branches, no entry has equal branches, no triple stands twice, no high branch has a mark,
-- and branches are constants or stand at earlier positions
pub record IsSound (vars : ℕ) (es : List Entry) : Type 0 where
  pub each : (p : ℕ) (e : Entry) → slice_get es p ≡ Some e → IsSoundEntry vars es p e
  pub once : (p q : ℕ) (e : Entry) → slice_get es p ≡ Some e → slice_get es q ≡ Some e → p ≡ q

-- the roots are constants or entries that are there, of so many
abbrev pub AreWithin : List (Option Node) → ℕ → Type 0
AreWithin roots count = (key : ℕ) (n : Node) → slice_index_or roots key None ≡ Some n → index n ≤ count

-- two nodes have one function
abbrev pub SameFunction : Arena → Node → Node → Type 0
SameFunction a m n = (bits : List Bool) → length bits ≡ a.vars → den a m bits ≡ den a n bits

-- nodes of one function are one node
abbrev pub IsCanonical : Arena → Type 0
IsCanonical a = (m n : Node) → IsNodeOf a m → IsNodeOf a n → SameFunction a m n → m ≡ n

-- what holds of each store
pub record IsLawful (a : Arena) : Type 0 where
  pub sound : IsSound a.vars a.entries
  pub canonical : IsCanonical a
  pub constants : (b : Bool) (bits : List Bool) → den a (constant b) bits ≡ b
  -- a node reads no bit before its variable
  pub support : (n : Node) (v : ℕ) (xs ys : List Bool) → IsNodeOf a n → v ≤ top_of a n → drop v xs ≡ drop v ys → den a n xs ≡ den a n ys
  -- a node's variable is one of the store, and `vars` only at a constant
  pub within : (n : Node) → IsNodeOf a n → top_of a n ≤ a.vars
  pub branching : (n : Node) → IsNodeOf a n → IsBranching n ↔ (top_of a n < a.vars)
  -- each root is a node
  pub roots : (key : ℕ) (n : Node) → root_at a key ≡ Some n → IsNodeOf a n
